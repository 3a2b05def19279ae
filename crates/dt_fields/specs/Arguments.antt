-- The arguments of all sets together. This is this project's.
use Rattle.std.specs.Prelude.{◌≡◌, ℕ, Bool, true, List}
use Rattle.std.specs.List.{list_any}
use Rattle.dt_values.specs.Types.{is_text}
use Rattle.dt_values.specs.Members.{has_member}
use Rattle.dt_values.specs.declared.set.SetDef.{SetDef}

-- a set has an argument of this name
abbrev pub has_argument : List SetDef → List ℕ → Bool
has_argument sets name = list_any (λ s. has_member s.members name) sets

-- the name is one of these
abbrev pub IsAmong : List (List ℕ) → List ℕ → Type 0
IsAmong names name = list_any (is_text name) names ≡ true

-- each argument's name is one of these
abbrev pub AreArgumentsAmong : List (List ℕ) → List SetDef → Type 0
AreArgumentsAmong names sets = (name : List ℕ) → has_argument sets name ≡ true → IsAmong names name
