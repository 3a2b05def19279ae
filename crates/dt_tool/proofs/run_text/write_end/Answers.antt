use Rattle.dt_text.proofs.Putting.{puts_more}
use Rattle.dt_tool.proofs.run_text.write_end.Goals as goal

pub returns : goal.returns
returns g c = puts_more (rw c.ended_line.ensures at c.write_parts.ensures) c.write_number.ensures
