use Rattle.std.proofs.Common.{length}
use Rattle.dt_fields.proofs.sets.+insert_names.Given as goal

abbrev pub decreases-insert_names : goal.decreases-insert_names
decreases-insert_names l = length l.members.now
