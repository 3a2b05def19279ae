-- A statement of each kind, by its plain one, and a list of them.
use Rattle.std.proofs.Common.{◌≡◌, ◌∙◌, sym, subst}
use Rattle.c_subset.specs.Programs.{Stmt, switch, call}
use Rattle.c_subset.specs.View.{stmt_of, cases_of, stmts_of, program_of}
use Rattle.c_eval.specs.Runs.{run_one, run_all, after_test}
use Rattle.c_eval.specs.Turns.{Stands, Turned}
use Rattle.c_eval.specs.declared.turn.Standing.{Standing as MadeStanding}
use Rattle.c_eval.proofs.Going.{stands_tested, step_going}
use Rattle.c_eval.proofs.StmtViews.{seen_switch, seen_call}
use Rattle.c_eval.proofs.run.+run.Goals as goal

pub run_statement-returns-in-Switch-clause-turned : goal.run_statement-returns-in-Switch-clause-turned
run_statement-returns-in-Switch-clause-turned g t c r h =
    let p = program_of c.args.setting.now.program.now in
    let o = c.args.setting.now.outside.now in
    let host = g.H.Host.host c.args.host.now in
    let state = g.H.Host.state c.args.host.now in
    let e : stmt_of c.args.statement.now ≡ switch c.in-Switch.mask (cases_of c.deref-in-Switch.result.now) =
    seen_switch c.in-Switch.cases c.in-Switch.is c.deref-in-Switch.ensures.value in
    let counted : Stands p o (after_test r) c.tested-in-Switch.result state =
    subst (λ (m : MadeStanding). Stands p o (after_test r) m state) (sym c.tested-in-Switch.ensures)
    (stands_tested p o r c.args.standing state h) in
    subst (λ (s : Stmt). Turned p o (run_one p o host c.args.setting.now.word s r) c.run_first.result
    (g.H.Host.state c.run_first.new.host)) (sym e)
    (c.run_first.ensures.turned (after_test r) counted)

pub run_statement-returns-in-Call-clause-turned : goal.run_statement-returns-in-Call-clause-turned
run_statement-returns-in-Call-clause-turned g t c r h =
    let p = program_of c.args.setting.now.program.now in
    let o = c.args.setting.now.outside.now in
    let host = g.H.Host.host c.args.host.now in
    let e : stmt_of c.args.statement.now ≡ call c.in-Call.pattern c.in-Call.set = seen_call c.in-Call.is in
    subst (λ (s : Stmt). Turned p o (run_one p o host c.args.setting.now.word s r) c.call.result
    (g.H.Host.state c.call.new.host)) (sym e)
    (c.call.ensures.turned r h)

pub run_statements-loop-statement-preserved : goal.run_statements-loop-statement-preserved
run_statements-loop-statement-preserved g t c =
    let p = program_of c.args.setting.now.program.now in
    let o = c.args.setting.now.outside.now in
    let first = g.H.Host.host c.args.host.now in
    let host = g.H.Host.host c.loop-statement.host in
    record {
      same = c.run_statement.ensures.same ∙ c.loop-statement.invariant.same;
      left =
          λ r h. step_going p o host first c.loop-statement.invariant.same c.args.setting.now.word c.args.statements.now
          c.loop-statement.statement-index c.statement-item.result c.loop-statement-test.true c.statement-item.is
          c.loop-statement.standing c.in-Going.next (g.H.Host.state c.loop-statement.host)
          (g.H.Host.state c.run_statement.new.host)
          c.run_statement.result c.in-Going.is c.run_statement.ensures.turned
          (run_all p o first c.args.setting.now.word (stmts_of c.args.statements.now) r)
          (c.loop-statement.invariant.left r h);
    }
