-- Which name or number a word spells (C17, 6.4.4.1; the C subset, docs/C_SUBSET.md).
use Rattle.std.specs.Prelude.{◌≡◌, ℕ, ◌<◌, ◌+◌, ◌-◌, ◌*◌, ◌/◌, List, [], ◌∷◌, ◌++◌, Option, Some, None, codes, false}
use Rattle.std.specs.Fmt.{digit_glyph}
use Rattle.dt_values.specs.Names.{IsName}
use Rattle.dt_values.specs.Widths.{width_bits}
use Rattle.dt_values.specs.declared.width.Width.{Width}
use Rattle.dt_text.specs.Hexadecimal.{hex}

-- the number below the limit whose text the bytes are; None where they are the text of none
abbrev pub IsNumber : ℕ → (ℕ → List ℕ) → List ℕ → Option ℕ → Type 0
IsNumber limit text bytes None = (n : ℕ) → n < limit → ¬ (bytes ≡ text n)
IsNumber limit text bytes (Some n) = (n < limit) × (bytes ≡ text n)

-- the name that stands behind these bytes; None where no name does
abbrev pub IsNameBehind : List ℕ → List ℕ → Option (List ℕ) → Type 0
IsNameBehind fixed bytes None = (name : List ℕ) → IsName name → ¬ (bytes ≡ fixed ++ name)
IsNameBehind fixed bytes (Some name) = IsName name × (bytes ≡ fixed ++ name)

-- four bits a digit
abbrev pub hex_length : Width → ℕ
hex_length w = width_bits w / 4

abbrev pub hex_bytes : Width → ℕ → List ℕ
hex_bytes w n = codes "0x" ++ hex (hex_length w) n

-- the number below 16 whose digit the byte is; None where it is no lower-case digit
abbrev pub IsDigit : ℕ → Option ℕ → Type 0
IsDigit byte None = (d : ℕ) → d < 16 → ¬ (byte ≡ digit_glyph false d)
IsDigit byte (Some d) = (d < 16) × (byte ≡ digit_glyph false d)

-- the number that decimal digits stand for, behind those that stand for n
unfoldable pub digits_value : ℕ → List ℕ → ℕ
digits_value n [] = n
digits_value n (b ∷ bs) = digits_value (10 * n + (b - 48)) bs
