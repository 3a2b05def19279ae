use Rattle.std.proofs.Common.{List, ◌++◌, ◌∷◌, [], sym, subst, ◌∙◌}
use Rattle.c_subset.specs.Programs.{Name}
use Rattle.c_subset.specs.SetParsing.{is_inside, union_set_at}
use Rattle.c_tokens.proofs.Loops.{Reading, reading_more, reading_last, reading_fails, gives_err}
use Rattle.c_subset.proofs.SetsRead.{union_set_shorter}
use Rattle.c_subset.proofs.sets.union_sets_at.Goals as goal

pub returns-in_err-union_set_at : goal.returns-in_err-union_set_at
returns-in_err-union_set_at c =
    let e = c.in_err-union_set_at.field-0.0 in
    let starts = sym c.is_inside.ensures ∙ c.more-test.true in
    gives_err _ _ e _ c.from_residual.ensures.1 (reading_fails e c.more.invariant starts c.in_err-union_set_at.ensures)

pub more-smaller : goal.more-smaller
more-smaller c = union_set_shorter c.more.tokens c.in_ok-union_set_at.field-0 c.union_set_at.new.tokens c.in_ok-union_set_at.ensures

pub more-preserved : goal.more-preserved
more-preserved c =
    let rest = c.union_set_at.new.tokens in
    let starts = sym c.is_inside.ensures ∙ c.more-test.true in
    let less = union_set_shorter c.more.tokens c.in_ok-union_set_at.field-0 rest c.in_ok-union_set_at.ensures in
    let r = reading_more c.in_ok-union_set_at.field-0 rest c.more.invariant starts c.in_ok-union_set_at.ensures less in
    subst (λ (l : List Name). Reading is_inside union_set_at c.args.tokens.now l rest) (sym c.in_ok-push.ensures.items) r

pub returns : goal.returns
returns c = reading_last c.more.invariant (sym c.is_inside.ensures ∙ c.more-test.false)
