-- C types and their names: `int`, the types of fixed size of stdint.h (C17, 7.20.1.1), and any other name.
use Rattle.std.specs.Prelude.{ℕ, Bool, List, codes, nat_eq, if◌then◌else◌}
use Rattle.std.specs.Cmp.Lexicographic.{pointwise}
use Rattle.dt_values.specs.declared.ctype.CType.{CType}
use Rattle.dt_values.specs.declared.ctype.CType.TheVariants as c

abbrev pub is_text : List ℕ → List ℕ → Bool
is_text = pointwise nat_eq

abbrev pub type_of : List ℕ → CType
type_of name =
    if is_text name (codes "int") then c.Int
    else if is_text name (codes "int8_t") then c.I8
    else if is_text name (codes "int16_t") then c.I16
    else if is_text name (codes "int32_t") then c.I32
    else if is_text name (codes "int64_t") then c.I64
    else if is_text name (codes "uint8_t") then c.U8
    else if is_text name (codes "uint16_t") then c.U16
    else if is_text name (codes "uint32_t") then c.U32
    else if is_text name (codes "uint64_t") then c.U64
    else c.Other name

abbrev pub type_name : CType → List ℕ
type_name c.Int = codes "int"
type_name c.I8 = codes "int8_t"
type_name c.I16 = codes "int16_t"
type_name c.I32 = codes "int32_t"
type_name c.I64 = codes "int64_t"
type_name c.U8 = codes "uint8_t"
type_name c.U16 = codes "uint16_t"
type_name c.U32 = codes "uint32_t"
type_name c.U64 = codes "uint64_t"
type_name (c.Other name) = name
