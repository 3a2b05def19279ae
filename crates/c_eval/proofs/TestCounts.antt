-- A run makes no more tests than there are statements.
use Rattle.std.proofs.Common.{◌≡◌, ℕ, ◌+◌, ◌≤◌, Bool, true, false, cond, List, ℤ, Option, Some, None, ◌<◌, ◌^◌, refl}
use Rattle.std.proofs.Common.{sym, subst, arith}
use Rattle.std.specs.Prelude.{bit_and, ◌==◌}
use Rattle.dt_values.specs.declared.set.SetDef.{SetDef}
use Rattle.dt_host.specs.Hosts.{Call, Host}
use Rattle.c_subset.specs.Programs.{Name, Program, Stmt, on_mask, switch, extract, assign, call, Stmts, done, then}
use Rattle.c_subset.specs.Programs.{Cases, no_case, or_case}
use Rattle.c_subset.specs.Sites.{statements_from, statements_in, statements_of_cases}
use Rattle.c_eval.specs.Turns.{Stands, Turned}
use Rattle.c_eval.specs.declared.turn.Ended.{Ended as MadeEnded}
use Rattle.c_eval.specs.declared.turn.Standing.{Standing as MadeStanding}
use Rattle.c_eval.specs.declared.turn.Turn.{Turn as MadeTurn}
use Rattle.c_eval.specs.declared.turn.Turn.TheVariants as turns
use Rattle.c_eval.specs.Runs.{at_start, run_of, whole_run}
use Rattle.c_eval.specs.Runs.{Held, Standing, Turn, going, ended, go_on, run_one, run_all, run_first, run_block}
use Rattle.c_eval.specs.Runs.{run_call, after_test, make_live, end_or_go_on, after_call}
use Rattle.c_eval.specs.Runs.{held_after_extraction, held_after_assignment, values_of_call}

abbrev pub tests_by : {S : Type 0} → Turn S → ℕ
tests_by (going r) = r.tests
tests_by (ended e r) = r.tests

live_tests : {S : Type 0} (set : Name) (held : Option Held) (r : Standing S)
    → tests_by (make_live set held r) ≤ r.tests + 1
live_tests set None r = omega arith
live_tests set (Some h) r = omega arith

end_tests : {S : Type 0} (b : Bool) (r : Standing S) → tests_by (end_or_go_on b r) ≤ r.tests + 1
end_tests true r = omega arith
end_tests false r = omega arith

call_tests : {S : Type 0} (values : Option (List ℤ)) (host : Host S) (name : Name) (r : Standing S)
    → tests_by (run_call values host name r) ≤ r.tests + 1
call_tests None host name r = omega arith
call_tests (Some values) host name r =
    let c : Call = record { name = name; values = values } in
    end_tests (host.outcome r.state c) (after_call host c r)

block_tests : {S : Type 0} (b : Bool) (block : Standing S → Turn S) (r : Standing S) (n : ℕ)
    → tests_by (block r) ≤ r.tests + n → tests_by (run_block b block r) ≤ r.tests + n
block_tests true block r n h = h
block_tests false block r n h = omega arith

next_tests : {S : Type 0} (t : Turn S) (next : Standing S → Turn S) (k m n : ℕ) → tests_by t ≤ k + m
    → ((r : Standing S) → tests_by (next r) ≤ r.tests + n)
    → tests_by (go_on t next) ≤ k + (m + n)
next_tests (going r) next k m n h more = let l = more r in omega arith
next_tests (ended e r) next k m n h more = omega arith

case_tests : {S : Type 0} (b : Bool) (t u : Turn S) (k m n : ℕ) → tests_by t ≤ k + m → tests_by u ≤ k + n
    → tests_by (cond b t u) ≤ k + (m + n)
case_tests true t u k m n h l = omega arith
case_tests false t u k m n h l = omega arith

module _ {S : Type 0} (program : Program) (outside : List SetDef) (host : Host S) (word : ℕ) where
  mutual
    one_tests : (s : Stmt) (r : Standing S)
        → tests_by (run_one program outside host word s r) ≤ r.tests + statements_from s
    one_tests (on_mask mask value block) r =
        let h =
        block_tests (bit_and word mask == value) (run_all program outside host word block) (after_test r)
        (statements_in block) (all_tests block (after_test r)) in
        omega arith
    one_tests (switch mask cases) r = let h = first_tests (bit_and word mask) cases (after_test r) in omega arith
    one_tests (extract format set) r = live_tests set (held_after_extraction program outside host word format set r) r
    one_tests (assign set name e) r = live_tests set (held_after_assignment program outside host word set name e r) r
    one_tests (call name set) r = call_tests (values_of_call program outside name set r.live) host name r

    pub all_tests : (ss : Stmts) (r : Standing S)
        → tests_by (run_all program outside host word ss r) ≤ r.tests + statements_in ss
    all_tests done r = omega arith
    all_tests (then s ss) r =
        next_tests (run_one program outside host word s r) (run_all program outside host word ss) r.tests
        (statements_from s) (statements_in ss) (one_tests s r) (all_tests ss)

    first_tests : (value : ℕ) (cs : Cases) (r : Standing S)
        → tests_by (run_first program outside host word value cs r) ≤ r.tests + statements_of_cases cs
    first_tests value no_case r = omega arith
    first_tests value (or_case v block cs) r =
        case_tests (value == v) (run_all program outside host word block r)
        (run_first program outside host word value cs r) r.tests (statements_in block) (statements_of_cases cs)
        (all_tests block r) (first_tests value cs r)

-- ---- a whole run
module _ {S : Type 0} (program : Program) (outside : List SetDef) (host : Host S) (word : ℕ) (state : S) where
  going_tests : (t : Turn S) (made : MadeStanding) (next : S) → Turned program outside t (turns.Going made) next
      → tests_by t < 2 ^ 64
      → made.tests ≡ (whole_run t).tests
  going_tests (going r) made next h small = let k = h.tests in omega arith
  going_tests (ended e r) made next h small = absurd h

  ended_tests : (t : Turn S) (how : MadeEnded) (made : MadeStanding) (next : S)
      → Turned program outside t (turns.Ended how made) next → tests_by t < 2 ^ 64
      → made.tests ≡ (whole_run t).tests
  ended_tests (going r) how made next h small = absurd h
  ended_tests (ended e r) how made next h small = let k = h.1.tests in omega arith

  few_tests : statements_in program.body < 2 ^ 64
      → tests_by (run_all program outside host word program.body (at_start state)) < 2 ^ 64
  few_tests few = let h = all_tests program outside host word program.body (at_start state) in omega arith

  pub tests_going : (turn : MadeTurn) (made : MadeStanding) (next : S) → turn ≡ turns.Going made
      → Turned program outside (run_all program outside host word program.body (at_start state)) turn next
      → statements_in program.body < 2 ^ 64 → made.tests ≡ (run_of program outside host word state).tests
  tests_going turn made next e h few =
      going_tests (run_all program outside host word program.body (at_start state)) made next
      (subst (λ (t : MadeTurn). Turned program outside
      (run_all program outside host word program.body (at_start state)) t next) e h) (few_tests few)

  pub tests_ended : (turn : MadeTurn) (how : MadeEnded) (made : MadeStanding) (next : S) → turn ≡ turns.Ended how made
      → Turned program outside (run_all program outside host word program.body (at_start state)) turn next
      → statements_in program.body < 2 ^ 64 → made.tests ≡ (run_of program outside host word state).tests
  tests_ended turn how made next e h few =
      ended_tests (run_all program outside host word program.body (at_start state)) how made next
      (subst (λ (t : MadeTurn). Turned program outside
      (run_all program outside host word program.body (at_start state)) t next) e h) (few_tests few)

  pub starts : (made : MadeStanding) → made ≡ record { live = None; tests = 0 }
      → Stands program outside (at_start state) made state
  starts made e =
      subst (λ (m : MadeStanding). Stands program outside (at_start state) m state) (sym e)
      (record { live = refl; tests = omega arith; state = refl })
