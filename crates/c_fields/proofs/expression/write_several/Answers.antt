use Rattle.std.proofs.Common.{sym, ◌∙◌}
use Rattle.dt_text.proofs.Putting.{puts_more}
use Rattle.c_fields.proofs.expression.write_several.Goals as goal

pub returns-then-has_sign : goal.returns-then-has_sign
returns-then-has_sign g c =
    rw (sym c.has_sign.ensures ∙ c.if-has_sign.true) (puts_more c.write_cast.ensures c.write_folded.ensures)
