-- Expressions of the C subset (docs/C_SUBSET.md, "Expressions").
use Rattle.std.specs.Prelude.{ℕ, Bool, ℤ, List, Option}

-- where bits come from: the word, or an argument of a set, which is named in the decoder alone
pub data Source : Type 0 where
  insn : Source
  argument : Option (List ℕ) → List ℕ → Source

-- a number; bits of a word or of an argument, signed or not, from a place, so many; an expression with the low bits of
-- another in the place of its own, from a place, so many; an expression cast to the signed type; and what a function
-- answers, alone or for an expression
pub data Term : Type 0 where
  constant : ℤ → Term
  segment : Bool → Source → ℕ → ℕ → Term
  deposit : Term → ℕ → ℕ → Term → Term
  cast : Term → Term
  function : List ℕ → Term
  applied : List ℕ → Term → Term

-- an argument with the expression that it gets
pub record Assignment : Type 0 where
  pub argument : List ℕ
  pub value : Term
