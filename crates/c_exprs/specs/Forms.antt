-- The rules that expressions of a program keep (docs/C_SUBSET.md, "Expressions").
use Rattle.std.specs.Prelude.{◌≡◌, ℕ, ◌<◌, ◌^◌, Bool, true, false, not, IsTrue, List, ℤ, pos, negsuc, Option, Some}
use Rattle.std.specs.Prelude.{None, is_some}
use Rattle.dt_values.specs.Names.{IsName}
use Rattle.c_exprs.specs.Exprs.{Source, insn, argument, Term, constant, segment, deposit, cast, function, applied}
use Rattle.c_exprs.specs.Exprs.{Assignment}

abbrev pub is_segment : Term → Bool
is_segment (segment signed from place length) = true
is_segment e = false

-- a segment or a deposit
abbrev pub is_bits : Term → Bool
is_bits (segment signed from place length) = true
is_bits (deposit into place length part) = true
is_bits e = false

abbrev pub is_function : Term → Bool
is_function (function name) = true
is_function (applied name e) = true
is_function e = false

-- bits of an argument are its lowest
abbrev pub BeginsRight : Source → ℕ → Type 0
BeginsRight insn place = Unit {0}
BeginsRight (argument set name) place = place ≡ 0

-- what stands where: a segment's place; a segment or a deposit in a deposit, and a segment as its part; a segment or a
-- deposit in a cast; and no function in a function
abbrev pub HasForm : Term → Type 0
HasForm (constant z) = Unit {0}
HasForm (segment signed from place length) = BeginsRight from place
HasForm (deposit into place length part) =
    IsTrue (is_bits into) × HasForm into × IsTrue (is_segment part) × HasForm part
HasForm (cast e) = IsTrue (is_bits e) × HasForm e
HasForm (function name) = Unit {0}
HasForm (applied name e) = IsTrue (not (is_function e)) × HasForm e

abbrev pub ArgumentNamed : Option (List ℕ) → List ℕ → Type 0
ArgumentNamed None name = IsName name
ArgumentNamed (Some set) name = IsName set × IsName name

abbrev pub SourceNamed : Source → Type 0
SourceNamed insn = Unit {0}
SourceNamed (argument set name) = ArgumentNamed set name

-- a constant lies in 64 bits with a sign
abbrev pub ConstantFits : ℤ → Type 0
ConstantFits (pos n) = n < 2 ^ 63
ConstantFits (negsuc n) = n < 2 ^ 63

-- sets, arguments and functions are names, and places and lengths are below 2 ^ 32
abbrev pub HasNames : Term → Type 0
HasNames (constant z) = ConstantFits z
HasNames (segment signed from place length) = SourceNamed from × (place < 2 ^ 32) × (length < 2 ^ 32)
HasNames (deposit into place length part) =
    HasNames into × (place < 2 ^ 32) × (length < 2 ^ 32) × HasNames part
HasNames (cast e) = HasNames e
HasNames (function name) = IsName name
HasNames (applied name e) = IsName name × HasNames e

pub record TermKeeps (e : Term) : Type 0 where
  pub form : HasForm e
  pub names : HasNames e

-- in the decoder an argument is named with its set, and in an extraction alone
abbrev pub SourceStands : Bool → Source → Type 0
SourceStands in_decoder insn = Unit {0}
SourceStands in_decoder (argument set name) = is_some set ≡ in_decoder

-- each argument in an expression is named as where the expression stands
abbrev pub StandsIn : Bool → Term → Type 0
StandsIn in_decoder (constant z) = Unit {0}
StandsIn in_decoder (segment signed from place length) = SourceStands in_decoder from
StandsIn in_decoder (deposit into place length part) = StandsIn in_decoder into × StandsIn in_decoder part
StandsIn in_decoder (cast e) = StandsIn in_decoder e
StandsIn in_decoder (function name) = Unit {0}
StandsIn in_decoder (applied name e) = StandsIn in_decoder e

-- of an extraction
pub record AssignmentKeeps (a : Assignment) : Type 0 where
  pub argument : IsName a.argument
  pub value : TermKeeps a.value
  pub place : StandsIn false a.value
