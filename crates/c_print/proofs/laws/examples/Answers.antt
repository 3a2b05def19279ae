use Rattle.std.proofs.Common.{refl}
use Rattle.std.specs.Fmt.{digits}
use Rattle.dt_text.specs.Hexadecimal.{hex}
use Rattle.dt_text.specs.Pieces.{pieces_text}
use Rattle.c_print.proofs.laws.examples.Goals as goal

pub returns-clause-texts : goal.returns-clause-texts
unfolding pieces_text digits hex
returns-clause-texts c = record { nop = refl; switch = refl; load = refl; no_load = refl }

pub returns-clause-assignments : goal.returns-clause-assignments
unfolding pieces_text digits
returns-clause-assignments c = record { constant = refl; asked = refl; cast = refl }
