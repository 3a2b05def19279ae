use Rattle.dt_fields.proofs.Cuts.{bits_cut}
use Rattle.dt_fields.proofs.field_lines.read_bits.Goals as goal

pub returns-in-Err-clause-broken : goal.returns-in-Err-clause-broken
returns-in-Err-clause-broken c = c.in-Err.ensures.broken _ (bits_cut c.args.width _ _ c.args.signed _ _ c.number_of-start.ensures c.number_of-bits.ensures)

pub returns-clause-kept : goal.returns-clause-kept
returns-clause-kept c = λ text. c.in-Ok.ensures.kept _ text (bits_cut c.args.width _ _ c.args.signed _ _ c.number_of-start.ensures c.number_of-bits.ensures)
