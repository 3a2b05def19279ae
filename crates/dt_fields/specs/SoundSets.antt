-- What a sound argument set is: one whose line breaks no rule (docs/devel/decodetree.rst, "Argument Sets"). The limits
-- are this project's.
use Rattle.std.specs.Prelude.{ℕ, ◌≡◌, ◌≢◌, ◌≤◌, IsTrue, List, length, All, AllPairs}
use Rattle.dt_values.specs.Names.{IsName}
use Rattle.dt_values.specs.Types.{type_of}
use Rattle.dt_values.specs.declared.ctype.CType.{CType}
use Rattle.dt_values.specs.declared.ctype.CType.TheVariants as c
use Rattle.dt_values.specs.declared.set.SetDef.{SetDef}
use Rattle.dt_values.specs.declared.set.TheConstants.{MOST_ARGUMENTS}
use Rattle.dt_fields.specs.CNames.{IsCName, begins_with_letter}

-- the name of a type that is none of the known ones: an identifier, and no known type's name
pub record IsOtherType (name : List ℕ) : Type 0 where
  pub named : IsName name
  pub letter : IsTrue (begins_with_letter name)
  pub unknown : type_of name ≡ c.Other name

abbrev pub IsSoundType : CType → Type 0
IsSoundType c.Int = Unit {0}
IsSoundType c.I8 = Unit {0}
IsSoundType c.I16 = Unit {0}
IsSoundType c.I32 = Unit {0}
IsSoundType c.I64 = Unit {0}
IsSoundType c.U8 = Unit {0}
IsSoundType c.U16 = Unit {0}
IsSoundType c.U32 = Unit {0}
IsSoundType c.U64 = Unit {0}
IsSoundType (c.Other name) = IsOtherType name

-- a set with a name, and with no more arguments than there may be: they have C names, all different, and sound types
pub record IsSoundSet (set : SetDef) : Type 0 where
  pub named : IsName set.name
  pub few : length set.members ≤ MOST_ARGUMENTS
  pub different : AllPairs (λ a b. a.name ≢ b.name) set.members
  pub c_names : All (λ m. IsCName m.name) set.members
  pub types : All (λ m. IsSoundType m.ctype) set.members
