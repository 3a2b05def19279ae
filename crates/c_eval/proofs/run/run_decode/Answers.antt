-- The number of tests.
use Rattle.std.proofs.Common.{◌≡◌, ◌∙◌, refl, ap, subst, sym}
use Rattle.c_subset.specs.View.{program_of, stmts_of}
use Rattle.c_eval.specs.Runs.{at_start, run_all}
use Rattle.c_eval.specs.Turns.{Turned}
use Rattle.c_eval.proofs.TestCounts.{starts, tests_going, tests_ended}
use Rattle.c_eval.proofs.run.run_decode.Goals as goal

pub returns-in-Going-clause-tests : goal.returns-in-Going-clause-tests
returns-in-Going-clause-tests g c few =
    let p = program_of c.args.program.now in
    let o = c.args.outside.now in
    let host = g.H.Host.host c.args.host.now in
    let state = g.H.Host.state c.args.host.now in
    let next = g.H.Host.state c.run_statements.new.host in
    let turned =
    subst (λ ss. Turned p o (run_all p o host c.args.word (stmts_of ss) (at_start state)) c.run_statements.result next)
    c.items.ensures
    (c.run_statements.ensures.turned (at_start state) (starts p o host c.args.word state _ refl)) in
    tests_going p o host c.args.word state c.run_statements.result c.in-Going.standing next c.in-Going.is turned few

pub returns-in-Ended-clause-tests : goal.returns-in-Ended-clause-tests
returns-in-Ended-clause-tests g c few =
    let p = program_of c.args.program.now in
    let o = c.args.outside.now in
    let host = g.H.Host.host c.args.host.now in
    let state = g.H.Host.state c.args.host.now in
    let next = g.H.Host.state c.run_statements.new.host in
    let turned =
    subst (λ ss. Turned p o (run_all p o host c.args.word (stmts_of ss) (at_start state)) c.run_statements.result next)
    c.items.ensures
    (c.run_statements.ensures.turned (at_start state) (starts p o host c.args.word state _ refl)) in
    tests_ended p o host c.args.word state c.run_statements.result c.in-Ended.ended c.in-Ended.standing next
    c.in-Ended.is turned few
