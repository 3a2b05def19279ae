-- Argument sets by name. This is this project's.
use Rattle.std.specs.Prelude.{ℕ, List, Option, nat_eq, find}
use Rattle.std.specs.List.{position}
use Rattle.std.specs.Cmp.Lexicographic.{pointwise}
use Rattle.dt_values.specs.declared.set.SetDef.{SetDef}

-- the set of this name
abbrev pub set_at : List SetDef → List ℕ → Option SetDef
set_at sets name = find (λ s. pointwise nat_eq name s.name) sets

-- its place among them, from 0
abbrev pub place_of_set : List SetDef → List ℕ → Option ℕ
place_of_set sets name = position (λ s. pointwise nat_eq name s.name) sets
