use Rattle.std.proofs.Common.{◌≡◌, ◌+◌, List, replicate, sym, ap, subst, ◌∙◌}
use Rattle.std.proofs.lemmas.List.{replicate-append-replicate}
use Rattle.c_tokens.specs.Parsing.{begins}
use Rattle.c_tokens.proofs.Exact.{some_is}
use Rattle.c_tokens.proofs.Loops.{Reading, reading_more, reading_last, reading_fails, gives_err}
use Rattle.c_exprs.specs.ExprParsing.{deposit_open, opening_at, openings_at}
use Rattle.c_exprs.proofs.FoldLoops.{opening_shorter}
use Rattle.c_exprs.proofs.fold.openings_at.Goals as goal

pub returns-in_err-opening_at : goal.returns-in_err-opening_at
unfolding openings_at
returns-in_err-opening_at c =
    let e = c.in_err-opening_at.field-0.0 in
    let starts = sym c.begins_deposit.ensures ∙ c.more-test.true in
    gives_err _ _ e _ c.from_residual.ensures.1 (reading_fails e c.more.invariant starts c.in_err-opening_at.ensures)

pub more-smaller : goal.more-smaller
more-smaller c = opening_shorter c.args.width c.more.tokens c.opening_at.new.tokens tt c.in_ok-opening_at.ensures

pub more-preserved : goal.more-preserved
more-preserved c =
    let rest = c.opening_at.new.tokens in
    let n = c.more.openings in
    let starts = sym c.begins_deposit.ensures ∙ c.more-test.true in
    let shorter = opening_shorter c.args.width c.more.tokens rest tt c.in_ok-opening_at.ensures in
    let r = reading_more tt rest c.more.invariant starts c.in_ok-opening_at.ensures shorter in
    let counted : n + 1 ≡ c.in_ok-openings.openings = some_is _ _ c.in_ok-openings.ensures in
    let one = replicate-append-replicate n 1 tt ∙ ap (λ m. replicate m tt) counted in
    let w = c.args.width in
    let ReadSoFar : List (Unit {0}) → Type 0 =
    λ l. Reading (begins (deposit_open w)) (opening_at w) c.args.tokens.now l rest in
    subst ReadSoFar one r

pub returns : goal.returns
unfolding openings_at
returns c = reading_last c.more.invariant (sym c.begins_deposit.ensures ∙ c.more-test.false)
