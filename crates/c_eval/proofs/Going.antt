-- A run, a statement at a time.
use Rattle.std.proofs.Common.{◌≡◌, ℕ, ◌+◌, ◌<◌, ◌≤◌, Bool, true, false, cond, List, [], ◌∷◌, length, get_or, drop}
use Rattle.std.proofs.Common.{Option, Some, None, option_map, refl, ap, sym, subst, ◌∙◌, arith}
use Rattle.std.proofs.lemmas.List.{at_drop_more, at_drop_all}
use Rattle.dt_values.specs.declared.set.SetDef.{SetDef}
use Rattle.dt_host.specs.Hosts.{Call, Host}
use Rattle.c_subset.specs.Programs.{Name, Program, then}
use Rattle.c_subset.specs.View.{stmt_of, stmts_of}
use Rattle.c_subset.specs.declared.program.Stmt.{Stmt as MadeStmt}
use Rattle.c_eval.specs.LiveSet.{live_seen, live_with}
use Rattle.c_eval.specs.Runs.{Held, Standing, Turn, going, ended, go_on, run_one, run_all, after_test}
use Rattle.c_eval.specs.Runs.{make_live, make_call, end_or_go_on}
use Rattle.c_eval.specs.Runs.{after_call as called}
use Rattle.c_eval.specs.Turns.{Stands, Turned, kept, one_more, tested, live_turn, after_call}
use Rattle.c_eval.specs.declared.live.Live.{Live as MadeLive}
use Rattle.c_eval.specs.declared.turn.Ended.{Ended as MadeEnded}
use Rattle.c_eval.specs.declared.turn.Ended.TheVariants as endings
use Rattle.c_eval.specs.declared.turn.Standing.{Standing as MadeStanding}
use Rattle.c_eval.specs.declared.turn.Turn.{Turn as MadeTurn}
use Rattle.c_eval.specs.declared.turn.Turn.TheVariants as turns

-- what is left of a run that went on so far
pub record Left {S : Type 0} (program : Program) (outside : List SetDef) (host : Host S) (word : ℕ) (xs : List MadeStmt)
    (made : MadeStanding) (state : S) (whole : Turn S) : Type 0 where
  pub now : Standing S
  pub stands : Stands program outside now made state
  pub is : whole ≡ run_all program outside host word (stmts_of xs) now

kept_more : (n : ℕ) → one_more (kept n) ≡ kept (n + 1)
kept_more n = omega arith

module _ {S : Type 0} (program : Program) (outside : List SetDef) where
  pub stands_tested : (r : Standing S) (made : MadeStanding) (state : S) → Stands program outside r made state
      → Stands program outside (after_test r) (tested made) state
  stands_tested r made state h =
      record { live = h.live; tests = ap one_more h.tests ∙ kept_more r.tests; state = h.state }

  -- ---- a set becomes live
  pub turned_live : (set : Name) (held : Option Held) (live : Option MadeLive) (r : Standing S) (made : MadeStanding)
      (state : S)
      → option_map (live_seen program outside) live ≡ option_map (live_with set) held
      → Stands program outside r made state
      → Turned program outside (make_live set held r) (live_turn live made) state
  turned_live set None None r made state e h = (refl, h)
  turned_live set None (Some l) r made state e h = absurd (cc)
  turned_live set (Some x) None r made state e h = absurd (cc)
  turned_live set (Some x) (Some l) r made state e h = record { live = sym e; tests = h.tests; state = h.state }

  -- ---- a call
  pub turned_call : (host : Host S) (c : Call) (r : Standing S) (made : MadeStanding) (state next : S) (outcome : Bool)
      → Stands program outside r made state → outcome ≡ host.outcome state c → next ≡ host.next state c
      → Turned program outside (make_call host c r) (after_call outcome made) next
  turned_call host c r made state next outcome h o n =
      let same : outcome ≡ host.outcome r.state c = o ∙ ap (λ s. host.outcome s c) (sym h.state) in
      let after : host.next r.state c ≡ next = ap (λ s. host.next s c) h.state ∙ sym n in
      subst (λ b. Turned program outside (end_or_go_on b (called host c r)) (after_call outcome made) next) same
      (by_outcome outcome (record { live = refl; tests = h.tests; state = after }))
    where
      by_outcome : (b : Bool)
          → Stands program outside (called host c r) (record { live = None; tests = made.tests }) next
          → Turned program outside (end_or_go_on b (called host c r)) (after_call b made) next
      by_outcome true k = (refl, k)
      by_outcome false k = k

  -- ---- a statement of a list
  module _ (host first : Host S) (same : host ≡ first) (word : ℕ) (xs : List MadeStmt) (i : ℕ) (x : MadeStmt)
      (within : i < length xs) (is : x ≡ get_or xs i x) where
    one_run : (r : Standing S) → run_all program outside first word (stmts_of (drop i xs)) r
        ≡ go_on (run_one program outside host word (stmt_of x) r)
        (run_all program outside first word (stmts_of (drop (i + 1) xs)))
    one_run r =
        at_drop_more (λ ys. run_all program outside first word (stmts_of ys) r) xs i x within
        ∙ ap (λ y. run_all program outside first word (then (stmt_of y) (stmts_of (drop (i + 1) xs))) r) (sym is)
        ∙ ap (λ (h : Host S). go_on (run_one program outside h word (stmt_of x) r)
        (run_all program outside first word (stmts_of (drop (i + 1) xs)))) (sym same)

    going_by : (t : Turn S) (after : MadeStanding) (next : S) (whole : Turn S)
        → Turned program outside t (turns.Going after) next
        → whole ≡ go_on t (run_all program outside first word (stmts_of (drop (i + 1) xs)))
        → Left program outside first word (drop (i + 1) xs) after next whole
    going_by (going r) after next whole h e = record { now = r; stands = h; is = e }
    going_by (ended how r) after next whole h e = absurd h

    pub step_going : (made after : MadeStanding) (state next : S) (turn : MadeTurn) → turn ≡ turns.Going after
        → ((r : Standing S) → Stands program outside r made state
        → Turned program outside (run_one program outside host word (stmt_of x) r) turn next)
        → (whole : Turn S) → Left program outside first word (drop i xs) made state whole
        → Left program outside first word (drop (i + 1) xs) after next whole
    step_going made after state next turn e turned whole left =
        going_by (run_one program outside host word (stmt_of x) left.now) after next whole
        (subst (λ (t : MadeTurn). Turned program outside
        (run_one program outside host word (stmt_of x) left.now) t next) e (turned left.now left.stands))
        (left.is ∙ one_run left.now)

    ended_by : (t : Turn S) (how : MadeEnded) (last : MadeStanding) (next : S) (whole : Turn S)
        → Turned program outside t (turns.Ended how last) next
        → whole ≡ go_on t (run_all program outside first word (stmts_of (drop (i + 1) xs)))
        → Turned program outside whole (turns.Ended how last) next
    ended_by (going r) how last next whole h e = absurd h
    ended_by (ended end r) how last next whole h e =
        subst (λ (t : Turn S). Turned program outside t (turns.Ended how last) next) (sym e) h

    pub step_ended : (made last : MadeStanding) (how : MadeEnded) (state next : S) (turn : MadeTurn)
        → turn ≡ turns.Ended how last
        → ((r : Standing S) → Stands program outside r made state
        → Turned program outside (run_one program outside host word (stmt_of x) r) turn next)
        → (whole : Turn S) → Left program outside first word (drop i xs) made state whole
        → Turned program outside whole (turns.Ended how last) next
    step_ended made last how state next turn e turned whole left =
        ended_by (run_one program outside host word (stmt_of x) left.now) how last next whole
        (subst (λ (t : MadeTurn). Turned program outside
        (run_one program outside host word (stmt_of x) left.now) t next) e (turned left.now left.stands))
        (left.is ∙ one_run left.now)

  pub left_none : (host : Host S) (word : ℕ) (xs : List MadeStmt) (i : ℕ) (made : MadeStanding) (state : S)
      (whole : Turn S)
      → length xs ≤ i
      → Left program outside host word (drop i xs) made state whole
      → Turned program outside whole (turns.Going made) state
  left_none host word xs i made state whole past left =
      subst (λ (t : Turn S). Turned program outside t (turns.Going made) state)
      (sym (left.is ∙ at_drop_all (λ ys. run_all program outside host word (stmts_of ys) left.now) xs i past))
      left.stands
