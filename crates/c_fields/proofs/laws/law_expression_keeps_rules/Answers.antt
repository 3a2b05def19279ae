use Rattle.c_fields.proofs.Forms.{field_keeps, value_keeps, field_stands, value_stands}
use Rattle.c_fields.proofs.laws.law_expression_keeps_rules.Goals as goal

pub returns-clause-field : goal.returns-clause-field
returns-clause-field c = field_keeps

pub returns-clause-value : goal.returns-clause-value
returns-clause-value c = value_keeps

pub returns-clause-field_place : goal.returns-clause-field_place
returns-clause-field_place c = field_stands

pub returns-clause-value_place : goal.returns-clause-value_place
returns-clause-value_place c = value_stands
