use Rattle.dt_forms.proofs.Soundness.{names_of_patterns}
use Rattle.dt_forms.proofs.laws.law_first_token_is_the_name.Goals as goal

pub returns : goal.returns
returns c = names_of_patterns
