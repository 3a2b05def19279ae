use Rattle.c_fields.proofs.Folding.{field_law, value_law}
use Rattle.c_fields.proofs.laws.law_field_expression.Goals as goal

pub returns-clause-field : goal.returns-clause-field
returns-clause-field c = field_law

pub returns-clause-value : goal.returns-clause-value
returns-clause-value c = value_law
