use Rattle.std.proofs.Common.{length}
use Rattle.dt_patterns.proofs.same_field.+same_segments.Given as goal

abbrev pub decreases-same_segments : goal.decreases-same_segments
decreases-same_segments l = length l.a.now
