-- Where a run stands in memory, and what a statement makes of it.
use Rattle.std.specs.Prelude.{◌≡◌, ℕ, ◌+◌, ◌-◌, ◌^◌, Bool, true, false, List, Option, Some, None, min, option_map}
use Rattle.dt_values.specs.declared.set.SetDef.{SetDef}
use Rattle.c_subset.specs.Programs.{Program}
use Rattle.c_eval.specs.LiveSet.{live_seen}
use Rattle.c_eval.specs.Runs.{Standing, Turn, going, ended, Ended, ended_true, ended_false, stuck}
use Rattle.c_eval.specs.declared.live.Live.{Live as MadeLive}
use Rattle.c_eval.specs.declared.turn.Ended.{Ended as MadeEnded}
use Rattle.c_eval.specs.declared.turn.Ended.TheVariants as endings
use Rattle.c_eval.specs.declared.turn.Standing.{Standing as MadeStanding}
use Rattle.c_eval.specs.declared.turn.Turn.{Turn as MadeTurn}
use Rattle.c_eval.specs.declared.turn.Turn.TheVariants as turns

abbrev pub ended_seen : MadeEnded → Ended
ended_seen endings.True = ended_true
ended_seen endings.False = ended_false
ended_seen endings.Stuck = stuck

-- a number of tests as it is kept in 64 bits
abbrev pub kept : ℕ → ℕ
kept n = min n (2 ^ 64 - 1)

abbrev pub one_more : ℕ → ℕ
one_more n = kept (n + 1)

-- after one test more
abbrev pub tested : MadeStanding → MadeStanding
tested made = record { live = made.live; tests = one_more made.tests }

-- a set is live now; without one the run is stuck
abbrev pub live_turn : Option MadeLive → MadeStanding → MadeTurn
live_turn (Some live) made = turns.Going (record { live = Some live; tests = made.tests })
live_turn None made = turns.Ended endings.Stuck made

-- after a call no set is live; true ends the run
abbrev pub after_call : Bool → MadeStanding → MadeTurn
after_call true made = turns.Ended endings.True (record { live = None; tests = made.tests })
after_call false made = turns.Going (record { live = None; tests = made.tests })

-- a run stands so in memory, with this state of the host
pub record Stands {S : Type 0} (program : Program) (outside : List SetDef) (r : Standing S) (made : MadeStanding)
    (now : S) : Type 0 where
  pub live : r.live ≡ option_map (live_seen program outside) made.live
  pub tests : made.tests ≡ kept r.tests
  pub state : r.state ≡ now

-- it went on or ended so
abbrev pub Turned : {S : Type 0} → Program → List SetDef → Turn S → MadeTurn → S → Type 0
Turned program outside (going r) (turns.Going made) state = Stands program outside r made state
Turned program outside (going r) (turns.Ended e made) state = ⊥
Turned program outside (ended e r) (turns.Going made) state = ⊥
Turned program outside (ended e r) (turns.Ended f made) state =
    (e ≡ ended_seen f) × Stands program outside r made state
