-- What the arguments of a set get, in the order of the set.
use Rattle.std.specs.Prelude.{ℕ, List, [], ◌∷◌, Option, Some, None, if◌then◌else◌}
use Rattle.dt_values.specs.Types.{is_text}
use Rattle.dt_values.specs.declared.ctype.Member.{Member}
use Rattle.dt_model.specs.Patterns.{GivenValues}
use Rattle.dt_model.specs.declared.value.FieldValue.{FieldValue}

-- what an argument gets
abbrev pub given_in : GivenValues → List ℕ → Option FieldValue
given_in [] name = None
given_in (v ∷ vs) name = if is_text name v.0 then Some v.1 else given_in vs name

-- what an argument gets, where it gets something, before others
abbrev pub given_before : List ℕ → Option FieldValue → GivenValues → GivenValues
given_before name None rest = rest
given_before name (Some given) rest = (name, given) ∷ rest

abbrev pub in_set_order : List Member → GivenValues → GivenValues
in_set_order [] values = []
in_set_order (m ∷ ms) values = given_before m.name (given_in values m.name) (in_set_order ms values)
