use Rattle.std.proofs.Common.{List, ◌++◌, ◌∷◌, [], sym, subst, ◌∙◌}
use Rattle.dt_values.specs.declared.set.SetDef.{SetDef}
use Rattle.c_subset.specs.SetParsing.{starts_set, set_at, sets_at}
use Rattle.c_tokens.proofs.Loops.{Reading, reading_more, reading_last, reading_fails, gives_err}
use Rattle.c_subset.proofs.SetsRead.{set_shorter}
use Rattle.c_subset.proofs.sets.sets_at.Goals as goal

pub returns-in_err-set_at : goal.returns-in_err-set_at
unfolding sets_at
returns-in_err-set_at c =
    let e = c.in_err-set_at.field-0.0 in
    let starts = sym c.starts_set.ensures ∙ c.more-test.true in
    gives_err _ _ e _ c.from_residual.ensures.1 (reading_fails e c.more.invariant starts c.in_err-set_at.ensures)

pub more-smaller : goal.more-smaller
more-smaller c = set_shorter c.more.tokens c.in_ok-set_at.field-0 c.set_at.new.tokens c.in_ok-set_at.ensures

pub more-preserved : goal.more-preserved
more-preserved c =
    let rest = c.set_at.new.tokens in
    let starts = sym c.starts_set.ensures ∙ c.more-test.true in
    let less = set_shorter c.more.tokens c.in_ok-set_at.field-0 rest c.in_ok-set_at.ensures in
    let r = reading_more c.in_ok-set_at.field-0 rest c.more.invariant starts c.in_ok-set_at.ensures less in
    subst (λ (l : List SetDef). Reading starts_set set_at c.args.tokens.now l rest) (sym c.in_ok-push.ensures.items) r

pub returns : goal.returns
unfolding sets_at
returns c = reading_last c.more.invariant (sym c.starts_set.ensures ∙ c.more-test.false)
