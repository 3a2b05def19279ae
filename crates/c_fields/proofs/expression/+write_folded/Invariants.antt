-- Each call has one segment less.
use Rattle.std.proofs.Common.{length}
use Rattle.c_fields.proofs.expression.+write_folded.Given as goal

abbrev pub decreases-write_folded : goal.decreases-write_folded
decreases-write_folded g l = length l.rest.now
