use Rattle.std.proofs.Common.{◌≡◌, List, ◌++◌, ◌∷◌, [], map, sym, ap, subst, ◌∙◌}
use Rattle.std.proofs.lemmas.List.{map-append}
use Rattle.c_tokens.proofs.Loops.{Reading, reading_more, reading_last, reading_fails, gives_err}
use Rattle.c_exprs.specs.Exprs.{Assignment}
use Rattle.c_exprs.specs.ExprParsing.{assignment_at}
use Rattle.c_subset.specs.View.{assignment_of}
use Rattle.c_subset.specs.SetParsing.{is_inside}
use Rattle.c_subset.proofs.ExtractsRead.{assignment_shorter}
use Rattle.c_subset.proofs.extracts.more_assigns_at.Goals as goal

pub returns-in_err-assignment_at : goal.returns-in_err-assignment_at
returns-in_err-assignment_at c =
    let e = c.in_err-assignment_at.field-0.0 in
    let starts = sym c.is_inside.ensures ∙ c.more-test.true in
    gives_err _ _ e _ c.from_residual.ensures.1 (reading_fails e c.more.invariant starts c.in_err-assignment_at.ensures)

pub more-smaller : goal.more-smaller
more-smaller c =
    assignment_shorter c.args.width c.more.tokens (assignment_of c.in_ok-assignment_at.field-0)
    c.assignment_at.new.tokens c.in_ok-assignment_at.ensures

pub more-preserved : goal.more-preserved
more-preserved c =
    let x = assignment_of c.in_ok-assignment_at.field-0 in
    let rest = c.assignment_at.new.tokens in
    let starts = sym c.is_inside.ensures ∙ c.more-test.true in
    let less = assignment_shorter c.args.width c.more.tokens x rest c.in_ok-assignment_at.ensures in
    let r = reading_more x rest c.more.invariant starts c.in_ok-assignment_at.ensures less in
    let pushed : map assignment_of c.push.new.self.items ≡ map assignment_of c.more.assigns.items ++ x ∷ [] =
    ap (map assignment_of) c.in_ok-push.ensures.items ∙ map-append assignment_of _ _ in
    let Goes : List Assignment → Type 0 = λ items.
    Reading is_inside (assignment_at c.args.width) c.args.tokens.now items rest in
    subst Goes (sym pushed) r

pub returns : goal.returns
returns c = reading_last c.more.invariant (sym c.is_inside.ensures ∙ c.more-test.false)
