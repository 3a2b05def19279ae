use Rattle.dt_forms.proofs.Soundness.{flat_list_sound}
use Rattle.dt_forms.proofs.laws.law_flat_list_is_sound.Goals as goal

pub returns : goal.returns
returns c = flat_list_sound
