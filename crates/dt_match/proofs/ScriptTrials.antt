-- A trial with a script in memory is that with the plain one of its lists.
use Rattle.std.proofs.Common.{◌≡◌, ℕ, ◌+◌, List, length, refl, ap, sym, ◌∙◌}
use Rattle.dt_model.specs.Patterns.{TrialPattern}
use Rattle.dt_host.specs.Alike.{AreAlike, state_after}
use Rattle.dt_host.specs.Hosts.{Call}
use Rattle.dt_host.specs.Scripts.{IsAfter, ScriptMemory, after_calls, memory_host, plain_script, up_to_end}
use Rattle.dt_host.proofs.ScriptCalls.{plain_count}
use Rattle.dt_match.specs.ScriptTrials.{IsPlainTrial}
use Rattle.dt_match.specs.Trial.{trial_of}
use Rattle.dt_match.proofs.AlikeTrials.{trial_left, trials_alike}

-- a script answers as the plain one does, and keeps the first of these calls
pub script_trial : (start : ScriptMemory) → AreAlike (IsAfter start) memory_host (plain_script start)
    → ((calls : List Call) (k : ℕ) → start.count ≡ up_to_end k
    → state_after memory_host start calls ≡ after_calls start calls (k + length calls))
    → (ps : List TrialPattern) (word k : ℕ) → start.count ≡ up_to_end k
    → IsPlainTrial start (trial_of memory_host ps word start) (trial_of (plain_script start) ps word k)
script_trial start alike kept ps word k is =
    let trial = trial_of memory_host ps word start in
    let plain = trial_of (plain_script start) ps word k in
    let same = trials_alike (IsAfter start) memory_host (plain_script start) alike ps word start k
    (record { outcomes = refl; answers = refl; count = is }) in
    let count : k + length plain.calls ≡ plain.state =
    sym (trial_left (plain_script start) ps word k ∙ plain_count start plain.calls k) in
    record {
      calls = same.calls;
      result = same.result;
      state = trial_left memory_host ps word start ∙ ap (state_after memory_host start) same.calls
          ∙ kept plain.calls k is ∙ ap (after_calls start plain.calls) count;
    }
