use Rattle.dt_text.proofs.Putting.{puts_more}
use Rattle.dt_tool.proofs.messages.write_overlaps.Goals as goal

pub returns : goal.returns
returns g c = rw c.in-Some.ensures.cases.0 (puts_more c.write_entry.ensures c.write_notes.ensures)
