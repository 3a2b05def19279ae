use Rattle.dt_patterns.proofs.SameFields.{field_decides}
use Rattle.dt_patterns.proofs.laws.law_same_field.Goals as goal

pub returns : goal.returns
returns c = field_decides
