-- The rules of `KeepsRules` on names that differ (the C subset, docs/C_SUBSET.md).
use Rattle.std.specs.Prelude.{◌≤◌, map, length}
use Rattle.std.specs.List.{All}
use Rattle.dt_values.specs.declared.set.SetDef.{SetDef}
use Rattle.dt_values.specs.declared.set.TheConstants.{MOST_ARGUMENTS}
use Rattle.c_subset.specs.Keeps.{AllDiffer}
use Rattle.c_subset.specs.Programs.{Program}

-- a set has at most so many arguments, and no two of one name
pub record HasDistinctArguments (s : SetDef) : Type 0 where
  pub few : length s.members ≤ MOST_ARGUMENTS
  pub arguments_differ : AllDiffer (map (λ m. m.name) s.members)

-- and no two sets, patterns, formats or sets of the union have one name
pub record HasDistinctNames (p : Program) : Type 0 where
  pub sets_distinct : All HasDistinctArguments p.sets
  pub sets_differ : AllDiffer (map (λ s. s.name) p.sets)
  pub patterns_differ : AllDiffer (map (λ q. q.name) p.patterns)
  pub formats_differ : AllDiffer (map (λ e. e.format) p.extracts)
  pub union_sets_differ : AllDiffer p.union_sets
