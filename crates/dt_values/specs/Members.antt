-- The arguments of sets, by name. This is this project's.
use Rattle.std.specs.Prelude.{Bool, ℕ, List, [], ◌∷◌, Option, Some, None, if◌then◌else◌}
use Rattle.std.specs.List.{list_any}
use Rattle.dt_values.specs.Types.{is_text}
use Rattle.dt_values.specs.declared.ctype.CType.{CType}
use Rattle.dt_values.specs.declared.ctype.Member.{Member}

-- an argument has the name
abbrev pub has_member : List Member → List ℕ → Bool
has_member members name = list_any (λ m. is_text name m.name) members

-- the type of an argument
abbrev pub type_in : List Member → List ℕ → Option CType
type_in [] name = None
type_in (m ∷ ms) name = if is_text name m.name then Some m.ctype else type_in ms name
