use Rattle.std.proofs.Common.{◌≡◌, List, ℕ, ◌∷◌, [], ◌++◌, map, sym, ap, subst, ◌∙◌, option_map}
use Rattle.std.proofs.lemmas.List.{map-append}
use Rattle.c_tokens.specs.Tokens.{Token}
use Rattle.c_tokens.specs.Parsing.{many}
use Rattle.c_tokens.proofs.Loops.{Reading, reading_more, reading_last, reading_fails, fails_made, gives_err}
use Rattle.c_subset.specs.Programs.{Stmt, Stmts}
use Rattle.c_subset.specs.View.{stmt_of, case_of, stmts_from}
use Rattle.c_subset.specs.ReadView.{scope_of}
use Rattle.c_subset.specs.StmtParsing.{starts_stmt, starts_case, stmt_at, case_at, inner_at, block_at}
use Rattle.c_subset.proofs.StmtsRead.{stmt_shorter, case_shorter}
use Rattle.c_subset.proofs.stmts.+read.Goals as goal

abbrev as_stmts : List Stmt × List Token → Stmts × List Token
as_stmts x = (stmts_from x.0, x.1)

pub block_at-returns-in_err-stmt_at : goal.block_at-returns-in_err-stmt_at
unfolding block_at
block_at-returns-in_err-stmt_at t c =
    let g = scope_of c.args.scope.now in
    let e = c.in_err-stmt_at.field-0.0 in
    let starts = sym c.starts_stmt.ensures ∙ c.more-test.true in
    gives_err _ _ e _ c.from_residual.ensures.1
    (fails_made e (many starts_stmt (stmt_at g (inner_at g c.args.braces)) c.args.tokens.now) as_stmts
    (reading_fails e c.more.invariant starts c.in_err-stmt_at.ensures))

pub block_at-more-smaller : goal.block_at-more-smaller
block_at-more-smaller t c =
    stmt_shorter (scope_of c.args.scope.now) c.args.braces c.more.tokens (stmt_of c.in_ok-stmt_at.field-0)
    c.stmt_at.new.tokens c.in_ok-stmt_at.ensures

pub block_at-more-preserved : goal.block_at-more-preserved
block_at-more-preserved t c =
    let g = scope_of c.args.scope.now in
    let one = stmt_at g (inner_at g c.args.braces) in
    let x = stmt_of c.in_ok-stmt_at.field-0 in
    let rest = c.stmt_at.new.tokens in
    let starts = sym c.starts_stmt.ensures ∙ c.more-test.true in
    let shorter = stmt_shorter g c.args.braces c.more.tokens x rest c.in_ok-stmt_at.ensures in
    let r = reading_more x rest c.more.invariant starts c.in_ok-stmt_at.ensures shorter in
    let pushed : map stmt_of c.push.new.self.items ≡ map stmt_of c.more.stmts.items ++ x ∷ [] =
    ap (map stmt_of) c.in_ok-push.ensures.items ∙ map-append stmt_of _ _ in
    subst (λ (l : List Stmt). Reading starts_stmt one c.args.tokens.now l rest) (sym pushed) r

pub block_at-returns : goal.block_at-returns
unfolding block_at
block_at-returns t c =
    ap (option_map as_stmts) (reading_last c.more.invariant (sym c.starts_stmt.ensures ∙ c.more-test.false))

pub cases_at-returns-in_err-case_at : goal.cases_at-returns-in_err-case_at
cases_at-returns-in_err-case_at t c =
    let e = c.in_err-case_at.field-0.0 in
    let starts = sym c.starts_case.ensures ∙ c.more-test.true in
    gives_err _ _ e _ c.from_residual.ensures.1 (reading_fails e c.more.invariant starts c.in_err-case_at.ensures)

pub cases_at-more-smaller : goal.cases_at-more-smaller
cases_at-more-smaller t c =
    case_shorter (scope_of c.args.scope.now) c.args.braces c.more.tokens (case_of c.in_ok-case_at.field-0)
    c.case_at.new.tokens c.in_ok-case_at.ensures

pub cases_at-more-preserved : goal.cases_at-more-preserved
cases_at-more-preserved t c =
    let g = scope_of c.args.scope.now in
    let one = case_at g.width (inner_at g c.args.braces) in
    let x = case_of c.in_ok-case_at.field-0 in
    let rest = c.case_at.new.tokens in
    let starts = sym c.starts_case.ensures ∙ c.more-test.true in
    let shorter = case_shorter g c.args.braces c.more.tokens x rest c.in_ok-case_at.ensures in
    let r = reading_more x rest c.more.invariant starts c.in_ok-case_at.ensures shorter in
    let pushed : map case_of c.push.new.self.items ≡ map case_of c.more.cases.items ++ x ∷ [] =
    ap (map case_of) c.in_ok-push.ensures.items ∙ map-append case_of _ _ in
    subst (λ (l : List (ℕ × Stmts)). Reading starts_case one c.args.tokens.now l rest) (sym pushed) r

pub cases_at-returns : goal.cases_at-returns
cases_at-returns t c = reading_last c.more.invariant (sym c.starts_case.ensures ∙ c.more-test.false)
