use Rattle.c_fields.proofs.Forms.{value_has_room}
use Rattle.c_fields.proofs.laws.law_sound_value_has_room.Goals as goal

pub returns : goal.returns
returns c = value_has_room
