-- What a run adds to where it stands: calls, tests and the host's state.
use Rattle.std.proofs.Common.{◌≡◌, ◌≤◌, ℕ, ◌+◌, ◌==◌, ℤ, Bool, true, false, cond, List, [], ◌∷◌, ◌++◌, length}
use Rattle.std.proofs.Common.{Option, Some, None, refl, ap, ◌∙◌, sym, arith}
use Rattle.std.specs.Prelude.{bit_and}
use Rattle.std.proofs.lemmas.List.{length-append, length_push}
use Rattle.dt_values.specs.declared.set.SetDef.{SetDef}
use Rattle.c_subset.specs.Programs.{Name, Stmt, on_mask, switch, extract, assign, call, Stmts, done, then, Cases}
use Rattle.c_subset.specs.Programs.{no_case, or_case, Program}
use Rattle.c_subset.specs.Sites.{call_sites_in, call_sites, call_sites_of_cases}
use Rattle.c_subset.specs.Sites.{statements_from, statements_in, statements_of_cases}
use Rattle.dt_host.specs.Alike.{state_after}
use Rattle.dt_host.specs.Hosts.{Call, Host}
use Rattle.c_eval.specs.Runs.{Held, Standing, Turn, going, ended, go_on, after_test, run_block, make_live}
use Rattle.c_eval.specs.Runs.{held_after_extraction, held_after_assignment, values_of_call, after_call, end_or_go_on}
use Rattle.c_eval.specs.Runs.{run_call, run_one, run_all, run_first, whole_run, at_start, run_of}
use Rattle.c_eval.proofs.AlikeRuns.{left_by}

-- From r on at most so many more calls and other tests are made. Where the state of r is that after its calls, from a
-- first state on, so is the state that the turn leaves.
pub record Adds {S : Type 0} (host : Host S) (first : S) (more others : ℕ) (r : Standing S) (t : Turn S) : Type 0 where
  pub calls : length (left_by t).calls ≤ length r.calls + more
  pub tests : (left_by t).tests ≤ r.tests + others
  pub state : r.state ≡ state_after host first r.calls
      → (left_by t).state ≡ state_after host first (left_by t).calls

state_after_one_more : {S : Type 0} (host : Host S) (first : S) (calls : List Call) (c : Call)
    → host.next (state_after host first calls) c ≡ state_after host first (calls ++ c ∷ [])
state_after_one_more host first [] c = refl
state_after_one_more host first (d ∷ calls) c = state_after_one_more host (host.next first d) calls c

module _ {S : Type 0} (host : Host S) (first : S) where
  stays : (calls tests : ℕ) (r : Standing S) → Adds host first calls tests r (going r)
  stays calls tests r = record { calls = omega arith; tests = omega arith; state = λ e. e }

  adds_more : (calls tests more others : ℕ) (r : Standing S) (turn : Turn S) → calls ≤ more → tests ≤ others
      → Adds host first calls tests r turn → Adds host first more others r turn
  adds_more calls tests more others r turn le lt h =
      let few = h.calls in
      let little = h.tests in
      record { calls = omega arith; tests = omega arith; state = h.state }

  goes_on : (calls tests more others : ℕ) (r : Standing S) (turn : Turn S) (next : Standing S → Turn S)
      → Adds host first calls tests r turn → ((q : Standing S) → Adds host first more others q (next q))
      → Adds host first (calls + more) (tests + others) r (go_on turn next)
  goes_on calls tests more others r (going q) next h rest =
      let g = rest q in
      let few = h.calls in
      let little = h.tests in
      let few_more = g.calls in
      let little_more = g.tests in
      record { calls = omega arith; tests = omega arith; state = λ e. g.state (h.state e) }
  goes_on calls tests more others r (ended e q) next h rest =
      adds_more calls tests (calls + more) (tests + others) r (ended e q) (omega arith) (omega arith) h

  tested : (calls tests : ℕ) (r : Standing S) (turn : Turn S) → Adds host first calls tests (after_test r) turn
      → Adds host first calls (1 + tests) r turn
  tested calls tests r turn h =
      let few = h.calls in
      let little = h.tests in
      record { calls = few; tests = omega arith; state = h.state }

  block_adds : (holds : Bool) (calls tests : ℕ) (block : Standing S → Turn S) (r : Standing S)
      → Adds host first calls tests r (block r) → Adds host first calls tests r (run_block holds block r)
  block_adds true calls tests block r h = h
  block_adds false calls tests block r h = stays calls tests r

  cond_adds : (b : Bool) (calls tests : ℕ) (r : Standing S) (one other : Turn S) → Adds host first calls tests r one
      → Adds host first calls tests r other → Adds host first calls tests r (cond b one other)
  cond_adds true calls tests r one other h g = h
  cond_adds false calls tests r one other h g = g

  live_adds : (set : Name) (held : Option Held) (r : Standing S) → Adds host first 0 1 r (make_live set held r)
  live_adds set (Some held) r = record { calls = omega arith; tests = omega arith; state = λ e. e }
  live_adds set None r = record { calls = omega arith; tests = omega arith; state = λ e. e }

  end_adds : (b : Bool) (r q : Standing S) → Adds host first 1 1 r (going q)
      → Adds host first 1 1 r (end_or_go_on b q)
  end_adds true r q h = record { calls = h.calls; tests = h.tests; state = h.state }
  end_adds false r q h = h

  called_adds : (values : Option (List ℤ)) (name : Name) (r : Standing S)
      → Adds host first 1 1 r (run_call values host name r)
  called_adds (Some values) name r =
      let c : Call = record { name = name; values = values } in
      let one_more = length_push r.calls c in
      end_adds (host.outcome r.state c) r (after_call host c r)
      (record {
        calls = omega arith;
        tests = omega arith;
        state = λ e. ap (λ s. host.next s c) e ∙ state_after_one_more host first r.calls c;
      })
  called_adds None name r = record { calls = omega arith; tests = omega arith; state = λ e. e }

  module _ (program : Program) (outside : List SetDef) (word : ℕ) where
    mutual
      one_adds : (s : Stmt) (r : Standing S)
          → Adds host first (length (call_sites_in s)) (statements_from s) r (run_one program outside host word s r)
      one_adds (on_mask mask value block) r =
          tested (length (call_sites block)) (statements_in block) r
          (run_one program outside host word (on_mask mask value block) r)
          (block_adds (bit_and word mask == value) (length (call_sites block)) (statements_in block)
          (run_all program outside host word block) (after_test r) (all_adds block (after_test r)))
      one_adds (switch mask cases) r =
          tested (length (call_sites_of_cases cases)) (statements_of_cases cases) r
          (run_one program outside host word (switch mask cases) r)
          (first_adds (bit_and word mask) cases (after_test r))
      one_adds (extract format set) r = live_adds set (held_after_extraction program outside host word format set r) r
      one_adds (assign set name e) r = live_adds set (held_after_assignment program outside host word set name e r) r
      one_adds (call name set) r = called_adds (values_of_call program outside name set r.live) name r

      all_adds : (ss : Stmts) (r : Standing S)
          → Adds host first (length (call_sites ss)) (statements_in ss) r (run_all program outside host word ss r)
      all_adds done r = stays 0 0 r
      all_adds (then s ss) r =
          let both = length-append (call_sites_in s) (call_sites ss) in
          let here = length (call_sites_in s) in
          let there = length (call_sites ss) in
          adds_more (here + there) (statements_from s + statements_in ss) (length (call_sites_in s ++ call_sites ss))
          (statements_from s + statements_in ss) r (run_all program outside host word (then s ss) r) (omega arith)
          (omega arith)
          (goes_on here (statements_from s) there (statements_in ss) r (run_one program outside host word s r)
          (run_all program outside host word ss) (one_adds s r) (λ q. all_adds ss q))

      first_adds : (value : ℕ) (cases : Cases) (r : Standing S)
          → Adds host first (length (call_sites_of_cases cases)) (statements_of_cases cases) r
          (run_first program outside host word value cases r)
      first_adds value no_case r = stays 0 0 r
      first_adds value (or_case v block cases) r =
          let both = length-append (call_sites block) (call_sites_of_cases cases) in
          let calls = length (call_sites block ++ call_sites_of_cases cases) in
          let tests = statements_in block + statements_of_cases cases in
          let one = run_all program outside host word block r in
          let other = run_first program outside host word value cases r in
          cond_adds (value == v) calls tests r one other
          (adds_more (length (call_sites block)) (statements_in block) calls tests r one (omega arith) (omega arith)
          (all_adds block r))
          (adds_more (length (call_sites_of_cases cases)) (statements_of_cases cases) calls tests r other (omega arith)
          (omega arith) (first_adds value cases r))

-- ---- runs as a whole
whole_calls : {S : Type 0} (turn : Turn S) → (whole_run turn).calls ≡ (left_by turn).calls
whole_calls (going r) = refl
whole_calls (ended e r) = refl

whole_tests : {S : Type 0} (turn : Turn S) → (whole_run turn).tests ≡ (left_by turn).tests
whole_tests (going r) = refl
whole_tests (ended e r) = refl

whole_state : {S : Type 0} (turn : Turn S) → (whole_run turn).state ≡ (left_by turn).state
whole_state (going r) = refl
whole_state (ended e r) = refl

module _ {S : Type 0} (host : Host S) (program : Program) (outside : List SetDef) (word : ℕ) (state : S) where
  abbrev turn : Turn S
  turn = run_all program outside host word program.body (at_start state)

  added : Adds host state (length (call_sites program.body)) (statements_in program.body) (at_start state) turn
  added = all_adds host state program outside word program.body (at_start state)

  -- no statement runs twice
  pub calls_within : length (run_of program outside host word state).calls ≤ length (call_sites program.body)
  calls_within =
      let few = added.calls in
      let same = ap length (whole_calls turn) in
      omega arith

  pub tests_within : (run_of program outside host word state).tests ≤ statements_in program.body
  tests_within =
      let few = added.tests in
      let same = whole_tests turn in
      omega arith

  -- the state that a run leaves is that after its calls
  pub run_left : (run_of program outside host word state).state
      ≡ state_after host state (run_of program outside host word state).calls
  run_left =
      whole_state turn ∙ added.state refl ∙ sym (ap (state_after host state) (whole_calls turn))
