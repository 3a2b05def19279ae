use Rattle.std.proofs.Common.{rules}
use Rattle.dt_text.proofs.Putting.{puts_flat}
use Rattle.dt_tool.proofs.messages.write_notes.Goals as goal

pub loop-position-preserved : goal.loop-position-preserved
loop-position-preserved g c = search (rules, puts_flat)
