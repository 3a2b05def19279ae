-- Runs with hosts that answer alike.
use Rattle.std.proofs.Common.{◌≡◌, ℕ, ◌+◌, ◌==◌, ◌++◌, ◌∷◌, ℤ, Bool, true, false, cond, List, [], Option, Some, None}
use Rattle.std.proofs.Common.{refl, ap, ap₂, subst}
use Rattle.std.specs.Prelude.{bit_and, option_and_then, unwrap_or}
use Rattle.dt_values.specs.declared.set.SetDef.{SetDef}
use Rattle.c_exprs.specs.Exprs.{Term}
use Rattle.c_subset.specs.Programs.{Name, Stmt, on_mask, switch, extract, assign, call, Stmts, done, then, Cases}
use Rattle.c_subset.specs.Programs.{no_case, or_case, Program}
use Rattle.dt_host.specs.Alike.{AreAlike}
use Rattle.dt_values.specs.Members.{type_in}
use Rattle.dt_host.specs.Hosts.{Call, Host}
use Rattle.dt_host.proofs.AlikeHosts.{same_answers}
use Rattle.c_eval.specs.Meaning.{helper_bits}
use Rattle.c_eval.specs.Runs.{Ended, Held, Standing, Turn, going, ended, go_on, declared_members, assigns_in}
use Rattle.c_eval.specs.Runs.{held_of, in_decoder, assigned, all_assigned, after_test, run_block, make_live}
use Rattle.c_eval.specs.Runs.{held_after_extraction, held_after_assignment, values_of_call, after_call, end_or_go_on}
use Rattle.c_eval.specs.Runs.{run_call, run_one, run_all, run_first, Run, whole_run, at_start, run_of}

-- the end that a turn brings, if it brings one, and where the run stands after it
abbrev pub end_of : {S : Type 0} → Turn S → Option Ended
end_of (going r) = None
end_of (ended e r) = Some e

abbrev pub left_by : {S : Type 0} → Turn S → Standing S
left_by (going r) = r
left_by (ended e r) = r

-- the same live set, calls and tests, and states of a relation
pub record AreAlikeStandings {S T : Type 0} (related : S → T → Type 0) (r : Standing S) (q : Standing T) : Type 0 where
  pub live : r.live ≡ q.live
  pub calls : r.calls ≡ q.calls
  pub tests : r.tests ≡ q.tests
  pub states : related r.state q.state

-- both go on, or both have the same end
pub record AreAlikeTurns {S T : Type 0} (related : S → T → Type 0) (one : Turn S) (other : Turn T) : Type 0 where
  pub ends : end_of one ≡ end_of other
  pub standings : AreAlikeStandings related (left_by one) (left_by other)

-- the same calls, end and tests, and last states of a relation
pub record AreAlikeRuns {S T : Type 0} (related : S → T → Type 0) (one : Run S) (other : Run T) : Type 0 where
  pub calls : one.calls ≡ other.calls
  pub ended : one.ended ≡ other.ended
  pub tests : one.tests ≡ other.tests
  pub states : related one.state other.state

-- ---- without a host
module _ {S T : Type 0} (related : S → T → Type 0) where
  going_alike : (r : Standing S) (q : Standing T) → AreAlikeStandings related r q
      → AreAlikeTurns related (going r) (going q)
  going_alike r q h = record { ends = refl; standings = h }

  next_alike : (one : Turn S) (other : Turn T) (next : Standing S → Turn S) (others : Standing T → Turn T)
      → AreAlikeTurns related one other
      → ((r : Standing S) (q : Standing T) → AreAlikeStandings related r q → AreAlikeTurns related (next r) (others q))
      → AreAlikeTurns related (go_on one next) (go_on other others)
  next_alike (going r) (going q) next others h more = more r q h.standings
  next_alike (going r) (ended e q) next others h more = let ends = h.ends in absurd (cc)
  next_alike (ended e r) (going q) next others h more = let ends = h.ends in absurd (cc)
  next_alike (ended e r) (ended f q) next others h more = h

  test_alike : (r : Standing S) (q : Standing T) → AreAlikeStandings related r q
      → AreAlikeStandings related (after_test r) (after_test q)
  test_alike r q h =
      record { live = h.live; calls = h.calls; tests = ap (λ n. n + 1) h.tests; states = h.states }

  block_alike : (holds : Bool) (block : Standing S → Turn S) (others : Standing T → Turn T)
      (r : Standing S) (q : Standing T) → AreAlikeStandings related r q
      → AreAlikeTurns related (block r) (others q)
      → AreAlikeTurns related (run_block holds block r) (run_block holds others q)
  block_alike true block others r q h more = more
  block_alike false block others r q h more = going_alike r q h

  cond_alike : (b : Bool) (one more : Turn S) (other others : Turn T) → AreAlikeTurns related one other
      → AreAlikeTurns related more others → AreAlikeTurns related (cond b one more) (cond b other others)
  cond_alike true one more other others h g = h
  cond_alike false one more other others h g = g

  live_alike : (set : Name) (held : Option Held) (r : Standing S) (q : Standing T) → AreAlikeStandings related r q
      → AreAlikeTurns related (make_live set held r) (make_live set held q)
  live_alike set (Some held) r q h = record {
    ends = refl;
    standings = record { live = refl; calls = h.calls; tests = h.tests; states = h.states };
  }
  live_alike set None r q h = record { ends = refl; standings = h }

  end_alike : (a b : Bool) (r : Standing S) (q : Standing T) → a ≡ b → AreAlikeStandings related r q
      → AreAlikeTurns related (end_or_go_on a r) (end_or_go_on b q)
  end_alike true true r q e h = record { ends = refl; standings = h }
  end_alike true false r q e h = absurd (cc)
  end_alike false true r q e h = absurd (cc)
  end_alike false false r q e h = record { ends = refl; standings = h }

  whole_alike : (one : Turn S) (other : Turn T) → AreAlikeTurns related one other
      → AreAlikeRuns related (whole_run one) (whole_run other)
  whole_alike (going r) (going q) h = record {
    calls = h.standings.calls;
    ended = refl;
    tests = h.standings.tests;
    states = h.standings.states;
  }
  whole_alike (going r) (ended e q) h = let ends = h.ends in absurd (cc)
  whole_alike (ended e r) (going q) h = let ends = h.ends in absurd (cc)
  whole_alike (ended e r) (ended f q) h = record {
    calls = h.standings.calls;
    ended = ap (λ o. unwrap_or o e) h.ends;
    tests = h.standings.tests;
    states = h.standings.states;
  }

-- ---- with two hosts
module _ {S T : Type 0} (related : S → T → Type 0) (one : Host S) (other : Host T)
    (alike : AreAlike related one other) (program : Program) (outside : List SetDef) (word : ℕ) where
  same_extraction : (format set : Name) (r : Standing S) (q : Standing T) → AreAlikeStandings related r q
      → held_after_extraction program outside one word format set r
      ≡ held_after_extraction program outside other word format set q
  same_extraction format set r q h =
      ap₂ (λ answer live. option_and_then (λ members. option_and_then
      (λ assigns. all_assigned (helper_bits program.width) word answer members assigns (held_of live set))
      (assigns_in program.extracts format set)) (declared_members program outside set))
      (same_answers related one other alike r.state q.state h.states) h.live

  same_assignment : (set name : Name) (e : Term) (r : Standing S) (q : Standing T) → AreAlikeStandings related r q
      → held_after_assignment program outside one word set name e r
      ≡ held_after_assignment program outside other word set name e q
  same_assignment set name e r q h =
      ap₂ (λ answer live. option_and_then (λ members. assigned
      (record { bits = helper_bits program.width; word = word; held = in_decoder live; answer = answer })
      (type_in members name) name e (held_of live set)) (declared_members program outside set))
      (same_answers related one other alike r.state q.state h.states) h.live

  called_alike : (values : Option (List ℤ)) (name : Name) (r : Standing S) (q : Standing T)
      → AreAlikeStandings related r q
      → AreAlikeTurns related (run_call values one name r) (run_call values other name q)
  called_alike (Some values) name r q h =
      let c : Call = record { name = name; values = values } in
      end_alike related (one.outcome r.state c) (other.outcome q.state c) (after_call one c r) (after_call other c q)
      (alike.outcomes r.state q.state c h.states)
      (record {
        live = refl;
        calls = ap (λ calls. calls ++ c ∷ []) h.calls;
        tests = h.tests;
        states = alike.states r.state q.state c h.states;
      })
  called_alike None name r q h = record { ends = refl; standings = h }

  mutual
    one_alike : (s : Stmt) (r : Standing S) (q : Standing T) → AreAlikeStandings related r q
        → AreAlikeTurns related (run_one program outside one word s r) (run_one program outside other word s q)
    one_alike (on_mask mask value block) r q h =
        block_alike related (bit_and word mask == value) (run_all program outside one word block)
        (run_all program outside other word block) (after_test r) (after_test q) (test_alike related r q h)
        (all_alike block (after_test r) (after_test q) (test_alike related r q h))
    one_alike (switch mask cases) r q h =
        first_alike (bit_and word mask) cases (after_test r) (after_test q) (test_alike related r q h)
    one_alike (extract format set) r q h =
        subst (λ held. AreAlikeTurns related (run_one program outside one word (extract format set) r)
        (make_live set held q)) (same_extraction format set r q h)
        (live_alike related set (held_after_extraction program outside one word format set r) r q h)
    one_alike (assign set name e) r q h =
        subst (λ held. AreAlikeTurns related (run_one program outside one word (assign set name e) r)
        (make_live set held q)) (same_assignment set name e r q h)
        (live_alike related set (held_after_assignment program outside one word set name e r) r q h)
    one_alike (call name set) r q h =
        subst (λ live. AreAlikeTurns related (run_one program outside one word (call name set) r)
        (run_call (values_of_call program outside name set live) other name q)) h.live
        (called_alike (values_of_call program outside name set r.live) name r q h)

    all_alike : (ss : Stmts) (r : Standing S) (q : Standing T) → AreAlikeStandings related r q
        → AreAlikeTurns related (run_all program outside one word ss r) (run_all program outside other word ss q)
    all_alike done r q h = going_alike related r q h
    all_alike (then s ss) r q h =
        next_alike related (run_one program outside one word s r) (run_one program outside other word s q)
        (run_all program outside one word ss) (run_all program outside other word ss) (one_alike s r q h)
        (λ r q h. all_alike ss r q h)

    first_alike : (value : ℕ) (cases : Cases) (r : Standing S) (q : Standing T) → AreAlikeStandings related r q
        → AreAlikeTurns related (run_first program outside one word value cases r)
        (run_first program outside other word value cases q)
    first_alike value no_case r q h = going_alike related r q h
    first_alike value (or_case v block cases) r q h =
        cond_alike related (value == v) (run_all program outside one word block r)
        (run_first program outside one word value cases r) (run_all program outside other word block q)
        (run_first program outside other word value cases q) (all_alike block r q h) (first_alike value cases r q h)

  pub alike_runs : (s : S) (t : T) → related s t
      → AreAlikeRuns related (run_of program outside one word s) (run_of program outside other word t)
  alike_runs s t h =
      whole_alike related (run_all program outside one word program.body (at_start s))
      (run_all program outside other word program.body (at_start t))
      (all_alike program.body (at_start s) (at_start t)
      (record { live = refl; calls = refl; tests = refl; states = h }))
