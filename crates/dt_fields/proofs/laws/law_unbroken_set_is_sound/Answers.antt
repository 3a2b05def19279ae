use Rattle.dt_fields.proofs.KeptSets.{unbroken_set_is_sound, unbroken_set_is_new, unbroken_set_is_no_pattern}
use Rattle.dt_fields.proofs.laws.law_unbroken_set_is_sound.Goals as goal

pub returns-clause-sound : goal.returns-clause-sound
returns-clause-sound c = unbroken_set_is_sound

pub returns-clause-new : goal.returns-clause-new
returns-clause-new c = unbroken_set_is_new

pub returns-clause-no_pattern : goal.returns-clause-no_pattern
returns-clause-no_pattern c = unbroken_set_is_no_pattern
