-- What an argument of a C type holds after a number is assigned to it (C17, 6.3.1.3; gcc, "Integers implementation").
use Rattle.std.specs.Prelude.{ℤ, pos}
use Rattle.dt_values.specs.declared.ctype.CType.{CType}
use Rattle.dt_values.specs.declared.ctype.CType.TheVariants as c
use Rattle.dt_values.specs.BitFields.{signed, residue}

-- `int` and the types of fixed size reduce a number to their range; any other type keeps it
abbrev pub stored : CType → ℤ → ℤ
stored c.Int z = signed 32 (residue 32 z)
stored c.I8 z = signed 8 (residue 8 z)
stored c.I16 z = signed 16 (residue 16 z)
stored c.I32 z = signed 32 (residue 32 z)
stored c.I64 z = signed 64 (residue 64 z)
stored c.U8 z = pos (residue 8 z)
stored c.U16 z = pos (residue 16 z)
stored c.U32 z = pos (residue 32 z)
stored c.U64 z = pos (residue 64 z)
stored (c.Other name) z = z
