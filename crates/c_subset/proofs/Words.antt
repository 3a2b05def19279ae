-- Types are words.
use Rattle.std.proofs.Common.{refl, lit<}
use Rattle.dt_values.specs.Types.{type_name}
use Rattle.dt_values.specs.declared.ctype.CType.{CType}
use Rattle.dt_values.specs.declared.ctype.CType.TheVariants.{Int, I8, I16, I32, I64, U8, U16, U32, U64, Other}
use Rattle.dt_values.specs.declared.width.Width.{Width}
use Rattle.dt_values.specs.declared.width.Width.TheVariants.{W16, W32, W64}
use Rattle.c_tokens.specs.Bytes.{IsWord}
use Rattle.c_tokens.proofs.WordBytes.{name_is_word}
use Rattle.c_subset.specs.Programs.{word_type}
use Rattle.c_subset.specs.Keeps.{IsTypeKept}

pub type_name_is_word : (t : CType) → IsTypeKept t → IsWord (type_name t)
type_name_is_word Int h = record { some = lit< tt; letters = refl }
type_name_is_word I8 h = record { some = lit< tt; letters = refl }
type_name_is_word I16 h = record { some = lit< tt; letters = refl }
type_name_is_word I32 h = record { some = lit< tt; letters = refl }
type_name_is_word I64 h = record { some = lit< tt; letters = refl }
type_name_is_word U8 h = record { some = lit< tt; letters = refl }
type_name_is_word U16 h = record { some = lit< tt; letters = refl }
type_name_is_word U32 h = record { some = lit< tt; letters = refl }
type_name_is_word U64 h = record { some = lit< tt; letters = refl }
type_name_is_word (Other name) h = name_is_word name h.0

-- the words that a width decides
pub word_type_is : (w : Width) → IsWord (word_type w)
word_type_is W16 = record { some = lit< tt; letters = refl }
word_type_is W32 = record { some = lit< tt; letters = refl }
word_type_is W64 = record { some = lit< tt; letters = refl }
