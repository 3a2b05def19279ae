-- The names of patterns as a set. This is this project's.
use Rattle.std.specs.Prelude.{◌≡◌, ℕ, List}
use Rattle.std.specs.List.{list_any}
use Rattle.dt_values.specs.Types.{is_text}

-- a name is one of these keys where it is one of the names
abbrev pub IsSetOf : List (List ℕ) → List (List ℕ) → Type 0
IsSetOf names keys = (name : List ℕ) → list_any (is_text name) keys ≡ list_any (is_text name) names
