-- What the elements that a reader keeps stand for.
use Rattle.std.specs.Prelude.{IsTrue}
use Rattle.std.specs.Char.{is_ascii_digit}
use Rattle.std.specs.List.{list_all}
use Rattle.dt_fields.specs.Numbers.{decimal}
use Rattle.dt_scope.specs.Elements.{Element, set_named, format_named, constant, field_named, bits, in_place, other}
use Rattle.dt_scope.specs.declared.element.Element.{Element as Kept}
use Rattle.dt_scope.specs.declared.element.Element.TheVariants as kept

abbrev pub element_seen : Kept → Element
element_seen (kept.Set name) = set_named name
element_seen (kept.Format name) = format_named name
element_seen (kept.Constant name negative digits) = constant name negative (decimal digits.now)
element_seen (kept.Field name field) = field_named name field
element_seen (kept.Bits text) = bits text.now
element_seen (kept.InPlace name digits signed) = in_place name (decimal digits.now) signed
element_seen kept.Other = other

-- its number is written in digits
abbrev pub HasDigits : Kept → Type 0
HasDigits (kept.Set name) = Unit {0}
HasDigits (kept.Format name) = Unit {0}
HasDigits (kept.Constant name negative digits) = IsTrue (list_all is_ascii_digit digits.now)
HasDigits (kept.Field name field) = Unit {0}
HasDigits (kept.Bits text) = Unit {0}
HasDigits (kept.InPlace name digits signed) = IsTrue (list_all is_ascii_digit digits.now)
HasDigits kept.Other = Unit {0}
