-- The readers of statements go down by their braces, and the loops read statements and cases one after another.
use Rattle.std.proofs.Common.{◌+◌, ◌*◌, length, map}
use Rattle.c_subset.specs.View.{stmt_of, case_of}
use Rattle.c_subset.specs.ReadView.{scope_of}
use Rattle.c_subset.specs.StmtParsing.{starts_stmt, starts_case, stmt_at, case_at, inner_at}
use Rattle.c_tokens.proofs.Loops.{Reading}
use Rattle.c_subset.proofs.stmts.+read.Given as goal

abbrev pub decreases-inner_at : goal.decreases-inner_at
decreases-inner_at l = 6 * l.braces

abbrev pub decreases-case_at : goal.decreases-case_at
decreases-case_at l = 6 * l.braces + 1

abbrev pub decreases-cases_at : goal.decreases-cases_at
decreases-cases_at l = 6 * l.braces + 2

abbrev pub decreases-if_at : goal.decreases-if_at
decreases-if_at l = 6 * l.braces + 3

abbrev pub decreases-switch_at : goal.decreases-switch_at
decreases-switch_at l = 6 * l.braces + 3

abbrev pub decreases-stmt_at : goal.decreases-stmt_at
decreases-stmt_at l = 6 * l.braces + 4

abbrev pub decreases-block_at : goal.decreases-block_at
decreases-block_at l = 6 * l.braces + 5

abbrev pub invariant-block_at-more : goal.invariant-block_at-more
invariant-block_at-more l =
    let g = scope_of l.scope in
    Reading starts_stmt (stmt_at g (inner_at g l.braces)) l.initial.tokens (map stmt_of l.stmts.items) l.tokens

abbrev pub decreases-block_at-more : goal.decreases-block_at-more
decreases-block_at-more l = length l.tokens

abbrev pub invariant-cases_at-more : goal.invariant-cases_at-more
invariant-cases_at-more l =
    let g = scope_of l.scope in
    Reading starts_case (case_at g.width (inner_at g l.braces)) l.initial.tokens (map case_of l.cases.items) l.tokens

abbrev pub decreases-cases_at-more : goal.decreases-cases_at-more
decreases-cases_at-more l = length l.tokens
