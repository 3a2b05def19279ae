use Rattle.std.proofs.Common.{◌∙◌, sym}
use Rattle.dt_patterns.proofs.NewArguments.{none_matches}
use Rattle.dt_patterns.proofs.infer.matching_set.Goals as goal

pub returns-then-has_new_argument : goal.returns-then-has_new_argument
returns-then-has_new_argument c =
    c.count.ensures ∙ sym (none_matches c.args.values.now c.args.sets.now (sym c.has_new_argument.ensures
    ∙ c.if-has_new_argument.true))
