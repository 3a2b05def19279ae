-- What a C text is (docs/C_SUBSET.md, "Programs").
use Rattle.std.specs.Prelude.{ℕ, List}
use Rattle.c_tokens.specs.Before.{tokens_before}
use Rattle.c_tokens.specs.Depth.{IsTooDeep}
use Rattle.c_subset.specs.Programs.{Program}
use Rattle.c_subset.specs.Spells.{Spells, SpellsNone}

-- too deep, no text of the subset, or that of one program
pub data Reading : Type 0 where
  too_deep : Reading
  not_subset : Reading
  of_program : Program → Reading

abbrev pub IsReading : List ℕ → Reading → Type 0
IsReading text too_deep = IsTooDeep (tokens_before text)
IsReading text not_subset = (¬ IsTooDeep (tokens_before text)) × SpellsNone text
IsReading text (of_program program) = (¬ IsTooDeep (tokens_before text)) × Spells text program
