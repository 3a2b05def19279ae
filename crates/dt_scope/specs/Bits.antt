-- The bits of a format or a pattern as they are written, and the numbers that they stand for (docs/devel/decodetree.rst,
-- "Formats" and "Patterns").
use Rattle.std.specs.Prelude.{ℕ, ◌+◌, ◌-◌, ◌*◌, ◌^◌, ◌<◌, ◌==◌, ◌||◌, ◌&&◌, Bool, not, if◌then◌else◌, List, [], ◌∷◌, length}
use Rattle.std.specs.Prelude.{bit_or, bit_xor}
use Rattle.dt_scope.specs.declared.bits.Bits.{Bits}
use Rattle.dt_model.specs.declared.format.Format.{Format}

-- a byte that stands for a bit: `0`, `1`, `.` or `-`
abbrev pub is_bit : ℕ → Bool
is_bit b = b == 48 || (b == 49 || (b == 46 || b == 45))

-- a byte 0 or 1 fixes its bit, and a dash has it ignored
abbrev pub fixed_digit : ℕ → ℕ
fixed_digit b = if b == 48 || b == 49 then 1 else 0

abbrev pub one_digit : ℕ → ℕ
one_digit b = if b == 49 then 1 else 0

abbrev pub ignored_digit : ℕ → ℕ
ignored_digit b = if b == 45 then 1 else 0

-- a number by its binary digits, the first most significant
abbrev pub number_of : (ℕ → ℕ) → List ℕ → ℕ
number_of digit [] = 0
number_of digit (b ∷ bs) = digit b * 2 ^ length bs + number_of digit bs

-- the same digits at the most significant end of a word
abbrev pub number_at_top : ℕ → (ℕ → ℕ) → List ℕ → ℕ
number_at_top width digit digits = number_of digit digits * 2 ^ (width - length digits)

-- some digits, but not one for each bit of the word
abbrev pub is_partial : ℕ → List ℕ → Bool
is_partial width digits = not (length digits == 0) && not (length digits == width)

-- the bits of the word that are neither fixed nor ignored, nor a field's
abbrev pub bits_left : ℕ → ℕ → Bits → ℕ
bits_left width fields bits = bit_xor (2 ^ width - 1) (bit_or (bit_or bits.fixed_mask bits.ignored) fields)

-- what digits say at the most significant end of a word
abbrev pub bits_at_top : ℕ → List ℕ → Bits
bits_at_top width digits = record {
  count = length digits;
  fixed_bits = number_at_top width one_digit digits;
  fixed_mask = number_at_top width fixed_digit digits;
  ignored = number_at_top width ignored_digit digits;
}

-- bits with those that a format fixes and ignores
abbrev pub bits_with_format : Bits → Format → Bits
bits_with_format bits f = record {
  count = bits.count;
  fixed_bits = bit_or bits.fixed_bits f.fixed_bits;
  fixed_mask = bit_or bits.fixed_mask f.fixed_mask;
  ignored = bit_or bits.ignored f.ignored;
}

-- what digits say, all of them
abbrev pub bits_of : List ℕ → Bits
bits_of digits = record {
  count = length digits;
  fixed_bits = number_of one_digit digits;
  fixed_mask = number_of fixed_digit digits;
  ignored = number_of ignored_digit digits;
}

-- one digit behind others
abbrev pub with_digit : Bits → ℕ → Bits
with_digit bits digit = record {
  count = bits.count + 1;
  fixed_bits = bits.fixed_bits * 2 + one_digit digit;
  fixed_mask = bits.fixed_mask * 2 + fixed_digit digit;
  ignored = bits.ignored * 2 + ignored_digit digit;
}

-- digits behind others
abbrev pub with_digits : Bits → List ℕ → Bits
with_digits bits [] = bits
with_digits bits (b ∷ bs) = with_digits (with_digit bits b) bs

-- no number has more bits than there are
pub record AreBitsBelow (bits : Bits) : Type 0 where
  pub fixed_bits : bits.fixed_bits < 2 ^ bits.count
  pub fixed_mask : bits.fixed_mask < 2 ^ bits.count
  pub ignored : bits.ignored < 2 ^ bits.count
