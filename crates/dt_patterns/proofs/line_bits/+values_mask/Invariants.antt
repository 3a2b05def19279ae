use Rattle.std.proofs.Common.{length}
use Rattle.dt_patterns.proofs.line_bits.+values_mask.Given as goal

abbrev pub decreases-values_mask : goal.decreases-values_mask
decreases-values_mask l = length l.values.now
