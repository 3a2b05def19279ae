-- The rules of a line's bits, as scripts/decodetree.py checks them.
use Rattle.std.specs.Prelude.{ℕ, ◌==◌, ◌&&◌, not, bit_and, bit_or, List, [], ◌∷◌, ◌++◌, Option, Some, None}
use Rattle.dt_fields.specs.declared.rule.Rule.{Rule}
use Rattle.dt_fields.specs.declared.rule.Rule.TheVariants as rule
use Rattle.dt_fields.specs.Faults.{Broken, where_broken, mask, named}
use Rattle.dt_fields.specs.Masks.{segments_mask}
use Rattle.dt_scope.specs.declared.bits.Bits.{Bits}
use Rattle.dt_model.specs.declared.format.Format.{Format}
use Rattle.dt_model.specs.declared.value.FieldValue.{FieldValue}
use Rattle.dt_model.specs.declared.value.FieldValue.TheVariants.{Field, Constant}
use Rattle.dt_scope.specs.Bits.{bits_left, bits_with_format}
use Rattle.dt_model.specs.Patterns.{GivenValues}

-- the bits of the word that fields take
abbrev pub value_mask : FieldValue → ℕ
value_mask (Field field) = segments_mask field.segments
value_mask (Constant z) = 0

abbrev pub values_mask : GivenValues → ℕ
values_mask [] = 0
values_mask (v ∷ vs) = bit_or (value_mask v.1) (values_mask vs)

-- what the format that a line names sets
abbrev pub base_values : Option Format → GivenValues
base_values None = []
base_values (Some f) = f.values

-- the bits of a line, joined with those of the format that it names
abbrev pub bits_with_base : Bits → Option Format → Bits
bits_with_base bits None = bits
bits_with_base bits (Some f) = bits_with_format bits f

-- the bits that the fields of a line take, and those of the format that it names
abbrev pub fields_with_base : GivenValues → Option Format → ℕ
fields_with_base values base = bit_or (values_mask values) (values_mask (base_values base))

-- two masks share these bits
abbrev pub shared_bits_row : Rule → ℕ → List Broken
shared_bits_row r shared = where_broken (not (shared == 0)) (r, mask shared)

-- those of a line's bits against those of the format that it names. A format has all bits of a word or none, and so has
-- a line where this is looked at, so that no file of fixed width breaks G15.
abbrev pub base_rows : Bits → Option Format → List Broken
base_rows bits None = []
base_rows bits (Some f) =
    shared_bits_row rule.G14 (bit_and bits.fixed_mask f.fixed_mask)
    ++ where_broken (not (f.bits == 0) && not (f.bits == bits.count)) (rule.G15, named f.name)

-- no two of the three masks share a bit
abbrev pub meeting_rows : ℕ → Bits → List Broken
meeting_rows fields bits =
    shared_bits_row rule.G18 (bit_and fields bits.fixed_mask)
    ++ (shared_bits_row rule.G19 (bit_and fields bits.ignored)
    ++ shared_bits_row rule.G20 (bit_and bits.fixed_mask bits.ignored))

-- each bit of the word is in one of them
abbrev pub left_rows : ℕ → ℕ → Bits → List Broken
left_rows width fields bits = shared_bits_row rule.G21 (bits_left width fields bits)
