use Rattle.dt_text.proofs.Putting.{puts_more}
use Rattle.dt_tool.proofs.messages.write_fault.Goals as goal

pub returns : goal.returns
returns g c = puts_more c.write_place.ensures
    (puts_more (rw c.bytes_at.ensures at c.write_detail.ensures) c.write_line_end.ensures)
