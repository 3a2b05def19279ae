use Rattle.dt_forms.proofs.OpenGroups.{groups_open}
use Rattle.dt_forms.proofs.laws.law_first_token_opens_the_group.Goals as goal

pub returns : goal.returns
returns c = groups_open
