use Rattle.std.proofs.Common.{sym, ◌∙◌}
use Rattle.dt_text.proofs.Putting.{puts_more}
use Rattle.c_fields.proofs.expression.write_field.Goals as goal

pub returns-in-Some-split_first : goal.returns-in-Some-split_first
returns-in-Some-split_first g c =
    let segments = sym c.items-segments.ensures ∙ c.in-Some-split_first.ensures.cases.0 in
    rw (c.in-Some.is, segments)
    (puts_more c.write_applied.ensures
    (puts_more (rw c.in-Some-split_first.ensures.cases.0 at c.write_joined-in-Some-split_first.ensures)
    c.write_close.ensures))
