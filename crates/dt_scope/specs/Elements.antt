-- The elements of format and pattern lines (docs/devel/decodetree.rst, "Formats" and "Patterns").
use Rattle.std.specs.Prelude.{ℕ, ◌==◌, ◌||◌, Bool, true, false, List, [], ◌∷◌, Option, Some, None, drop, if◌then◌else◌}
use Rattle.std.specs.Prelude.{ℤ, pos, neg_ℤ}
use Rattle.std.specs.List.{list_all}
use Rattle.dt_values.specs.Names.{is_name}
use Rattle.dt_fields.specs.FieldTokens.{is_signed, without_sign}
use Rattle.dt_fields.specs.Numbers.{is_number, decimal}
use Rattle.dt_fields.specs.Parts.{parts_at_byte}
use Rattle.dt_scope.specs.Bits.{is_bit}

-- what a token is: a set; a format; an argument with a constant, as its sign and its digits' number; an argument with
-- the name of its field; bits as they are written; an argument with the number of its bits at this place, and whether
-- they are signed; or none of the forms
pub data Element : Type 0 where
  set_named : List ℕ → Element
  format_named : List ℕ → Element
  constant : List ℕ → Bool → ℕ → Element
  field_named : List ℕ → List ℕ → Element
  bits : List ℕ → Element
  in_place : List ℕ → ℕ → Bool → Element
  other : Element

-- a name behind a mark: & @ %
abbrev pub marked_element : ℕ → List ℕ → Element
marked_element mark name =
    if is_name name then
    if mark == 38 then set_named name
    else if mark == 64 then format_named name
    else if mark == 37 then field_named name name
    else other
    else other

-- a number may have a sign before its digits
abbrev pub has_sign : List ℕ → Bool
has_sign [] = false
has_sign (b ∷ bs) = b == 45 || b == 43

abbrev pub digits_of : List ℕ → List ℕ
digits_of text = if has_sign text then drop 1 text else text

-- its sign is a minus
abbrev pub is_negative : List ℕ → Bool
is_negative [] = false
is_negative (b ∷ bs) = b == 45

-- a number by its sign and its digits
abbrev pub signed_number : Bool → ℕ → ℤ
signed_number true n = neg_ℤ (pos n)
signed_number false n = pos n

-- what stands behind `ident=`: `%f` or a number
abbrev pub number_element : List ℕ → List ℕ → Element
number_element name text =
    if is_number (digits_of text) then constant name (is_negative text) (decimal (digits_of text)) else other

abbrev pub value_element : List ℕ → List ℕ → Element
value_element name [] = other
value_element name (b ∷ bs) =
    if b == 37 then if is_name bs then field_named name bs else other else number_element name (b ∷ bs)

-- what stands behind `ident:`
abbrev pub length_element : List ℕ → List ℕ → Element
length_element name len =
    if is_number (without_sign len) then in_place name (decimal (without_sign len)) (is_signed len) else other

abbrev pub placed_element : Option (List ℕ × List ℕ) → Element
placed_element None = other
placed_element (Some parts) = if is_name parts.0 then length_element parts.0 parts.1 else other

-- `ident=` and what stands behind it, and else `ident:`
abbrev pub named_element : List ℕ → Option (List ℕ × List ℕ) → Element
named_element text None = placed_element (parts_at_byte 58 text)
named_element text (Some parts) = if is_name parts.0 then value_element parts.0 parts.1 else other

abbrev pub is_mark : ℕ → Bool
is_mark b = b == 38 || (b == 64 || b == 37)

abbrev pub lettered_element : List ℕ → Element
lettered_element [] = other
lettered_element (b ∷ bs) =
    if is_mark b then marked_element b bs else named_element (b ∷ bs) (parts_at_byte 61 (b ∷ bs))

abbrev pub element_of : List ℕ → Element
element_of text = if list_all is_bit text then bits text else lettered_element text
