use Rattle.std.proofs.Common.{◌≡◌, ◌+◌, ◌*◌, drop, length}
use Rattle.c_subset.specs.Sites.{calls_in, call_sites_of_cases}
use Rattle.c_subset.specs.View.{stmts_of, cases_of}
use Rattle.c_subset.proofs.sites.+sites.Given as goal

abbrev pub decreases-calls_of_statement : goal.decreases-calls_of_statement
decreases-calls_of_statement l = 3 * goal.size-calls_of_statement l

abbrev pub decreases-calls_of_statements : goal.decreases-calls_of_statements
decreases-calls_of_statements l = 3 * goal.size-calls_of_statements l + 1

abbrev pub decreases-calls_of_cases : goal.decreases-calls_of_cases
decreases-calls_of_cases l = 3 * goal.size-calls_of_cases l + 2

abbrev pub invariant-calls_of_cases-loop-case : goal.invariant-calls_of_cases-loop-case
invariant-calls_of_cases-loop-case l =
    l.calls + length (call_sites_of_cases (cases_of (drop l.case-index l.cases)))
    ≡ length (call_sites_of_cases (cases_of l.cases))

abbrev pub invariant-calls_of_statements-loop-stmt : goal.invariant-calls_of_statements-loop-stmt
invariant-calls_of_statements-loop-stmt l =
    l.calls + calls_in (stmts_of (drop l.stmt-index l.stmts)) ≡ calls_in (stmts_of l.stmts)
