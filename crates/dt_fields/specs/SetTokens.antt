-- The tokens of a set line: `ident`, `ident:type`, `!extern` (docs/devel/decodetree.rst, "Argument Sets").
use Rattle.std.specs.Prelude.{ℕ, ◌&&◌, List, Option, Some, None, codes, if◌then◌else◌}
use Rattle.dt_values.specs.Types.{is_text, type_of}
use Rattle.dt_values.specs.declared.ctype.Member.{Member}
use Rattle.dt_values.specs.declared.ctype.CType.TheVariants as c
use Rattle.dt_fields.specs.CNames.{is_ident}
use Rattle.dt_fields.specs.Parts.{parts_at_byte}

-- what a token is: the mark of a set that is declared elsewhere, an argument with its type, or none of the forms
pub data SetToken : Type 0 where
  outside_mark : SetToken
  argument : Member → SetToken
  other : SetToken

abbrev pub typed_argument : List ℕ → List ℕ → SetToken
typed_argument name type =
    if is_ident name && is_ident type then argument (record { ctype = type_of type; name = name }) else other

-- what stands before and behind a colon, or the text where there is no colon: then the type is `int`
abbrev pub argument_token : List ℕ → Option (List ℕ × List ℕ) → SetToken
argument_token text None = if is_ident text then argument (record { ctype = c.Int; name = text }) else other
argument_token text (Some parts) = typed_argument parts.0 parts.1

abbrev pub set_token : List ℕ → SetToken
set_token text = if is_text text (codes "!extern") then outside_mark else argument_token text (parts_at_byte 58 text)
