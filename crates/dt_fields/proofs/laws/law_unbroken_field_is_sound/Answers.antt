use Rattle.dt_fields.proofs.KeptFields.{unbroken_field_is_sound, unbroken_field_is_named, unbroken_field_is_new}
use Rattle.dt_fields.proofs.laws.law_unbroken_field_is_sound.Goals as goal

pub returns-clause-sound : goal.returns-clause-sound
returns-clause-sound c = unbroken_field_is_sound

pub returns-clause-named : goal.returns-clause-named
returns-clause-named c = unbroken_field_is_named

pub returns-clause-new : goal.returns-clause-new
returns-clause-new c = unbroken_field_is_new
