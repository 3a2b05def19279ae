-- The host that a script is, as it lies in memory.
use Rattle.std.specs.Prelude.{◌≡◌, ℕ, ◌+◌, ◌-◌, ◌<◌, ◌^◌, min, nat_lt, Bool, pos, List, [], ◌∷◌, ◌++◌, length, map, take, replicate, if◌then◌else◌}
use Rattle.dt_host.specs.Hosts.{Answer, Call, Host, answer_at, outcome_at, script}
use Rattle.dt_host.specs.declared.script.Answer.{Answer as KeptAnswer}
use Rattle.dt_host.specs.declared.script.Call.{Call as KeptCall}

-- a script's answer
abbrev pub answer_seen : KeptAnswer → Answer
answer_seen a = record { calls = a.calls; function = a.function; argument = a.arg; answer = a.answer }

-- it speaks of less than 2 ^ 64 calls
abbrev pub IsWithin : KeptAnswer → Type 0
IsWithin a = a.calls < 2 ^ 64

-- a call as it is kept: how many values were handed over, and these with zeros behind them
abbrev pub kept_call : Call → KeptCall
kept_call c = record {
  name = c.name;
  count = length c.values;
  items = c.values ++ replicate (32 - length c.values) (pos 0);
}

-- its lists, how many calls it keeps, those that it kept, and how many were made, up to 2 ^ 64
pub record ScriptMemory : Type 0 where
  pub outcomes : List Bool
  pub answers : List Answer
  pub room : ℕ
  pub calls : List KeptCall
  pub count : ℕ

-- the number of calls as it is kept
abbrev pub up_to_end : ℕ → ℕ
up_to_end k = min k (2 ^ 64)

abbrev pub one_more : ℕ → ℕ
one_more k = up_to_end (k + 1)

-- after one more call, which is kept where there is room
abbrev pub after_call : ScriptMemory → Call → ScriptMemory
after_call s c = record s {
  calls = if nat_lt (length s.calls) s.room then s.calls ++ kept_call c ∷ [] else s.calls;
  count = one_more s.count;
}

-- what it answers
abbrev pub memory_host : Host ScriptMemory
memory_host = record {
  outcome = λ s c. outcome_at s.outcomes s.count;
  next = after_call;
  answer = λ s. answer_at s.answers s.count;
}

-- the plain script of the same lists
abbrev pub plain_script : ScriptMemory → Host ℕ
plain_script s = script s.outcomes s.answers

-- a script of the lists of this one, after so many calls
pub record IsAfter (start s : ScriptMemory) (k : ℕ) : Type 0 where
  pub outcomes : s.outcomes ≡ start.outcomes
  pub answers : s.answers ≡ start.answers
  pub count : s.count ≡ up_to_end k

-- the script that this one is after these calls, which make so many in all
abbrev pub after_calls : ScriptMemory → List Call → ℕ → ScriptMemory
after_calls s calls k = record s {
  calls = take s.room (s.calls ++ map kept_call calls);
  count = up_to_end k;
}
