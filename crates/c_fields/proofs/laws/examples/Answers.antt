use Rattle.std.proofs.Common.{refl}
use Rattle.std.specs.Fmt.{digits}
use Rattle.dt_text.specs.Pieces.{pieces_text}
use Rattle.c_fields.proofs.laws.examples.Goals as goal

pub returns-clause-lines : goal.returns-clause-lines
unfolding pieces_text digits
returns-clause-lines c = record { branch = refl; whole = refl }
