use Rattle.std.proofs.Common.{◌∙◌}
use Rattle.dt_fields.proofs.Decimals.{number_more}
use Rattle.dt_fields.proofs.number.number_of.Goals as goal

pub loop-digit-preserved : goal.loop-digit-preserved
loop-digit-preserved c = c.with_digit-number.ensures ∙ number_more c.args.digits.now c.loop-digit.digit-index 0 c.loop-digit.number c.loop-digit-test.true c.loop-digit.invariant
