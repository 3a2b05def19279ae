use Rattle.dt_text.proofs.Putting.{puts_more}
use Rattle.dt_tool.proofs.messages.write_entry.Goals as goal

pub returns : goal.returns
returns g c = puts_more c.write_place.ensures
    (puts_more (rw c.first_token-token.ensures at c.write_bytes.ensures) c.write_line_end.ensures)
