-- What a run asks of the sets that are declared.
use Rattle.std.specs.Prelude.{ℕ, ◌≤◌, ◌≢◌, List, length, map, AllPairs}
use Rattle.dt_values.specs.declared.ctype.Member.{Member}
use Rattle.dt_values.specs.declared.set.SetDef.{SetDef}

-- at most 32 arguments, of different names
pub record ArgumentsKeep (members : List Member) : Type 0 where
  pub few : length members ≤ 32
  pub differ : AllPairs (λ a b. a.name ≢ b.name) members

abbrev pub SetRuns : SetDef → Type 0
SetRuns s = ArgumentsKeep s.members
