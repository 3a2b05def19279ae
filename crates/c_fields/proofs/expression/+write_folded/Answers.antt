use Rattle.dt_text.proofs.Putting.{puts_more}
use Rattle.c_fields.proofs.expression.+write_folded.Goals as goal

pub returns-in-Some : goal.returns-in-Some
returns-in-Some g t c =
    let several = c.in-Some.ensures.cases.0 in
    rw several
    (puts_more c.write_deposit.ensures
    (puts_more c.write_folded.ensures
    (puts_more (rw (c.helper_bits.ensures, c.total_length-place.ensures, several) at c.write_middle.ensures)
    (puts_more c.write_segment-in-Some.ensures c.write_close.ensures))))
