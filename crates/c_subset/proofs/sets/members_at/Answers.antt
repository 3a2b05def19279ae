use Rattle.std.proofs.Common.{List, ◌++◌, ◌∷◌, [], sym, subst, ◌∙◌}
use Rattle.dt_values.specs.declared.ctype.Member.{Member}
use Rattle.c_subset.specs.SetParsing.{is_inside, member_at}
use Rattle.c_tokens.proofs.Loops.{Reading, reading_more, reading_last, reading_fails, gives_err}
use Rattle.c_subset.proofs.SetsRead.{member_shorter}
use Rattle.c_subset.proofs.sets.members_at.Goals as goal

pub returns-in_err-ctype : goal.returns-in_err-ctype
returns-in_err-ctype c =
    let e = c.in_err-ctype.field-0.0 in
    let starts = sym c.is_inside.ensures ∙ c.more-test.true in
    gives_err _ _ e _ c.from_residual.ensures.1 (reading_fails e c.more.invariant starts c.in_err-ctype.ensures)

pub more-smaller : goal.more-smaller
more-smaller c = member_shorter c.more.tokens c.in_ok-ctype.field-0 c.member_at.new.tokens c.in_ok-ctype.ensures

pub more-preserved : goal.more-preserved
more-preserved c =
    let rest = c.member_at.new.tokens in
    let starts = sym c.is_inside.ensures ∙ c.more-test.true in
    let less = member_shorter c.more.tokens c.in_ok-ctype.field-0 rest c.in_ok-ctype.ensures in
    let r = reading_more c.in_ok-ctype.field-0 rest c.more.invariant starts c.in_ok-ctype.ensures less in
    subst (λ (l : List Member). Reading is_inside member_at c.args.tokens.now l rest) (sym c.in_ok-push.ensures.items) r

pub returns : goal.returns
returns c = reading_last c.more.invariant (sym c.is_inside.ensures ∙ c.more-test.false)
