use Rattle.std.proofs.Common.{◌≡◌, ◌+◌, ◌*◌, drop}
use Rattle.c_subset.specs.View.{stmts_of, cases_of, program_of}
use Rattle.c_eval.specs.Runs.{Standing, run_all, run_first}
use Rattle.c_eval.specs.Turns.{Stands}
use Rattle.c_eval.proofs.Going.{Left}
use Rattle.c_eval.proofs.run.+run.Given as goal

abbrev pub decreases-run_statement : goal.decreases-run_statement
decreases-run_statement g l = 3 * goal.size-run_statement g l

abbrev pub decreases-run_statements : goal.decreases-run_statements
decreases-run_statements g l = 3 * goal.size-run_statements g l + 1

abbrev pub decreases-run_first : goal.decreases-run_first
decreases-run_first g l = 3 * goal.size-run_first g l + 2

abbrev pub invariant-run_first-loop-case : goal.invariant-run_first-loop-case
invariant-run_first-loop-case g l = record {
  host : l.host ≡ l.fn.host;
  rest : (r : Standing g.H.Host.State)
      → run_first (program_of l.setting.program.now) l.setting.outside.now (g.H.Host.host l.fn.host) l.setting.word
      l.value (cases_of (drop l.case-index l.cases)) r
      ≡ run_first (program_of l.setting.program.now) l.setting.outside.now (g.H.Host.host l.fn.host) l.setting.word
      l.value (cases_of l.cases) r;
}

abbrev pub invariant-run_statements-loop-statement : goal.invariant-run_statements-loop-statement
invariant-run_statements-loop-statement g l = record {
  same : g.H.Host.host l.host ≡ g.H.Host.host l.fn.host;
  left : (r : Standing g.H.Host.State)
      → Stands (program_of l.setting.program.now) l.setting.outside.now r l.fn.standing (g.H.Host.state l.fn.host)
      → Left (program_of l.setting.program.now) l.setting.outside.now (g.H.Host.host l.fn.host) l.setting.word
      (drop l.statement-index l.statements) l.standing (g.H.Host.state l.host)
      (run_all (program_of l.setting.program.now) l.setting.outside.now (g.H.Host.host l.fn.host) l.setting.word
      (stmts_of l.statements) r);
}
