-- The values of arguments as they are handed over: the arguments stand in the order of their set.
use Rattle.std.specs.Prelude.{ℕ, ℤ, ◌≡◌, List, length, map, take}
use Rattle.dt_values.specs.declared.ctype.Member.{Member}
use Rattle.dt_host.specs.Hosts.{Call}

-- the call of these arguments, whose values are the first of the items
abbrev pub handed : List ℕ → List Member → List ℤ → Call
handed name members items = record { name = name; values = take (length members) items }

-- the first of the items are what arguments of these names hold
abbrev pub AreItems : (List ℕ → ℤ) → List Member → List ℤ → Type 0
AreItems held members items = take (length members) items ≡ map (λ m. held m.name) members
