use Rattle.dt_text.proofs.Putting.{puts_more}
use Rattle.c_fields.proofs.expression.write_segment.Goals as goal

pub returns : goal.returns
returns g c =
    puts_more (rw c.has_sign.ensures at c.write_extract.ensures)
    (puts_more c.write_source.ensures
    (rw (c.place_of.ensures, c.segment_length.ensures.length) at c.write_last.ensures))
