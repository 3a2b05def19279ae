use Rattle.dt_text.proofs.Putting.{puts_more}
use Rattle.dt_tool.proofs.run_text.write_call.Goals as goal

pub returns : goal.returns
returns g c = puts_more c.write_parts.ensures
    (puts_more (rw (c.members_of_pattern.ensures, c.values_of.ensures) at c.write_arguments.ensures)
    c.write_parts-2.ensures)
