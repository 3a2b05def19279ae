-- The fields and the constants among values.
use Rattle.std.specs.Prelude.{not}
use Rattle.std.proofs.lemmas.List.Elements.{All-filter}
use Rattle.dt_scope.specs.Fitting.{ValueFits, ValuesFit}
use Rattle.dt_model.specs.Patterns.{GivenValues}
use Rattle.dt_patterns.specs.Inference.{fields_of, is_constant}

pub fields_fit : (values : GivenValues) → ValuesFit values → ValuesFit (fields_of values)
fields_fit values h = All-filter (λ v. not (is_constant v.1)) (λ v. ValueFits v.1) values h
