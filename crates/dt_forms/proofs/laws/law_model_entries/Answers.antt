use Rattle.dt_forms.proofs.Readings.{model_entries}
use Rattle.dt_forms.proofs.laws.law_model_entries.Goals as goal

pub returns : goal.returns
returns c = model_entries
