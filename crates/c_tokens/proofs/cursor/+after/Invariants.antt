use Rattle.std.proofs.Common.{length}
use Rattle.c_tokens.proofs.cursor.+after.Given as goal

abbrev pub decreases-after : goal.decreases-after
decreases-after l = length l.fixed.now
