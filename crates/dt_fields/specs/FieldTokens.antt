-- The tokens of a field line: `pos:len`, `pos:slen`, `!function=ident` (docs/devel/decodetree.rst, "Fields"). Named
-- segments aren't read yet.
use Rattle.std.specs.Prelude.{ℕ, ◌==◌, ◌&&◌, Bool, false, List, [], ◌∷◌, Option, Some, None, take, drop, codes, if◌then◌else◌}
use Rattle.dt_values.specs.Types.{is_text}
use Rattle.dt_fields.specs.declared.segment.Segment.{Segment}
use Rattle.dt_fields.specs.declared.segment.Segment.TheVariants.{Bits}
use Rattle.dt_fields.specs.Numbers.{is_number, decimal}
use Rattle.dt_fields.specs.Parts.{parts_at_byte}

-- what a token is: the text behind `!function=`, a segment, or none of the forms
pub data FieldToken : Type 0 where
  function : List ℕ → FieldToken
  segment : Segment → FieldToken
  other : FieldToken

-- a length has an `s` before it where its segment is signed
abbrev pub is_signed : List ℕ → Bool
is_signed [] = false
is_signed (b ∷ bs) = b == 115

abbrev pub without_sign : List ℕ → List ℕ
without_sign text = if is_signed text then drop 1 text else text

-- the segment whose place and length are written so
abbrev pub segment_token : List ℕ → List ℕ → FieldToken
segment_token place len =
    if is_number place && is_number (without_sign len)
    then segment (Bits (decimal place) (decimal (without_sign len)) (is_signed len))
    else other

-- what stands before and behind a colon, or no colon
abbrev pub parts_token : Option (List ℕ × List ℕ) → FieldToken
parts_token None = other
parts_token (Some parts) = segment_token parts.0 parts.1

abbrev pub field_token : List ℕ → FieldToken
field_token text =
    if is_text (take 10 text) (codes "!function=") then function (drop 10 text)
    else parts_token (parts_at_byte 58 text)
