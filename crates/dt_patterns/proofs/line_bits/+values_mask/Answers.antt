use Rattle.std.proofs.Common.{◌≡◌, ◌+◌, length, subst, arith}
use Rattle.std.proofs.lemmas.List.Elements.{All-head, All-tail}
use Rattle.dt_scope.specs.Fitting.{ValueFits, ValuesFit}
use Rattle.dt_patterns.proofs.line_bits.+values_mask.Goals as goal

pub value_mask-requires : goal.value_mask-requires
value_mask-requires κs c = All-head (λ v. ValueFits v.1) _ _ (subst ValuesFit c.in-Some.ensures.cases.0 c.requires)

pub values_mask-requires : goal.values_mask-requires
values_mask-requires κs c =
    let shorter : length c.in-Some.rest.now + 1 ≡ length c.args.values.now = c.in-Some.ensures.cases.1 in
    (omega arith, All-tail (λ v. ValueFits v.1) _ _ (subst ValuesFit c.in-Some.ensures.cases.0 c.requires))
