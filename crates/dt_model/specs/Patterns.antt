-- The patterns of pattern files, in file order: docs/devel/decodetree.rst, "Patterns".
use Rattle.std.specs.Prelude.{ℕ, ◌==◌, Bool, IsTrue, List, bit_and}
use Rattle.dt_values.specs.declared.ctype.Member.{Member}
use Rattle.dt_lines.specs.declared.line.Position.{Position}
use Rattle.dt_model.specs.declared.value.FieldValue.{FieldValue}

-- a pattern of the flat list: its name; the place of its file, from 0, and its line; how many bits it has; the mask of
-- the bits that it fixes, and their value
pub record FlatPattern : Type 0 where
  pub name : List ℕ
  pub file : ℕ
  pub line : ℕ
  pub bits : ℕ
  pub fixed_mask : ℕ
  pub fixed_bits : ℕ

-- where a pattern stands in the files
abbrev pub position_of : FlatPattern → Position
position_of p = record { file = p.file; line = p.line }

-- a pattern matches the words that have its fixed bits under its mask
abbrev pub matches : FlatPattern → ℕ → Bool
matches p word = bit_and word p.fixed_mask == p.fixed_bits

abbrev pub Matches : FlatPattern → ℕ → Type 0
Matches p word = IsTrue (matches p word)

-- arguments with what they get: a field of the word, or a constant
abbrev pub GivenValues : Type 0
GivenValues = List (List ℕ × FieldValue)

-- a pattern as it is tried: what it matches; the arguments of its set, with their types, in the set's order; and what
-- they get
pub record TrialPattern : Type 0 where
  pub flat : FlatPattern
  pub members : List Member
  pub values : GivenValues
