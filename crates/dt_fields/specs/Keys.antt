-- How sets and formats lie in their maps. It is this project's.
use Rattle.std.specs.Prelude.{ℕ, ◌≡◌, List, map}
use Rattle.std.specs.Map.{keys_of, values_of}

-- each value lies under its name
abbrev pub Keyed : {X : Type 0} → (X → List ℕ) → List (List ℕ × X) → Type 0
Keyed name_of es = keys_of es ≡ map name_of (values_of es)
