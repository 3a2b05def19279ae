-- What arguments hold, and what they hold after numbers are assigned to them.
use Rattle.std.specs.Prelude.{◌≡◌, ℕ, ℤ, pos, List, [], ◌∷◌, Some, slice_get, option_map, if◌then◌else◌}
use Rattle.dt_values.specs.Types.{is_text}
use Rattle.dt_values.specs.declared.ctype.Member.{Member}
use Rattle.dt_values.specs.Stored.{stored}

-- the item of the first argument of this name; 0 without one
abbrev pub held_by : List Member → List ℤ → List ℕ → ℤ
held_by [] items name = pos 0
held_by (m ∷ ms) [] name = pos 0
held_by (m ∷ ms) (z ∷ zs) name = if is_text name m.name then z else held_by ms zs name

-- the item of each argument is what it stores of its number
abbrev pub AreStored : List Member → List ℤ → List ℤ → Type 0
AreStored members numbers items =
    (k : ℕ) (m : Member) → slice_get members k ≡ Some m
    → slice_get items k ≡ option_map (stored m.ctype) (slice_get numbers k)
