-- Which texts spell a program (the C subset, docs/C_SUBSET.md).
use Rattle.std.specs.Prelude.{◌≡◌, ℕ, List, Some}
use Rattle.c_tokens.specs.Tokens.{tokens_of}
use Rattle.c_subset.specs.Programs.{Program, spelling}
use Rattle.c_subset.specs.Keeps.{KeepsRules}

pub record Spells (text : List ℕ) (p : Program) : Type 0 where
  pub rules : KeepsRules p
  pub tokens : tokens_of text ≡ Some (spelling p)

-- no program is spelled
abbrev pub SpellsNone : List ℕ → Type 0
SpellsNone text = (p : Program) → ¬ Spells text p
