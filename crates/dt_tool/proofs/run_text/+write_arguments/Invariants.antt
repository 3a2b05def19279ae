use Rattle.std.proofs.Common.{length}
use Rattle.dt_tool.proofs.run_text.+write_arguments.Given as goal

abbrev pub decreases-write_arguments : goal.decreases-write_arguments
decreases-write_arguments g l = length l.members.now
