-- What values stand for, and what is wrong with one.
use Rattle.std.specs.Prelude.{ℕ, ◌==◌, ◌&&◌, Bool, not, nat_le, List, length, Option, Some, None, if◌then◌else◌}
use Rattle.std.specs.List.{list_all}
use Rattle.dt_values.specs.Names.{is_name_byte}
use Rattle.dt_values.specs.declared.width.Width.{Width}
use Rattle.dt_values.specs.declared.width.Width.TheVariants as width
use Rattle.dt_fields.specs.CNames.{is_keyword}
use Rattle.dt_model.specs.Options.{begins_as_name}
use Rattle.dt_words.specs.declared.names.TheConstants.{LONGEST_OPTION_NAME}
use Rattle.dt_words.specs.Numbers.{number_of}
use Rattle.dt_words.specs.Scripts.{script_of}
use Rattle.dt_words.specs.declared.rows.ValueKind.{ValueKind}
use Rattle.dt_words.specs.declared.rows.ValueKind.TheVariants as kind
use Rattle.dt_words.specs.declared.usage.Usage.{Usage}
use Rattle.dt_words.specs.declared.usage.Usage.TheVariants as usage

-- a name for the C text: letters, digits and underscores, not too many, no digit first, and no keyword of C
abbrev pub is_option_name : List ℕ → Bool
is_option_name text =
    begins_as_name text
    && (list_all is_name_byte text && (nat_le (length text) LONGEST_OPTION_NAME && not (is_keyword text)))

abbrev pub option_name : List ℕ → Option (List ℕ)
option_name text = if is_option_name text then Some text else None

abbrev pub width_of_number : ℕ → Option Width
width_of_number n =
    if n == 16 then Some width.W16
    else if n == 32 then Some width.W32
    else if n == 64 then Some width.W64
    else None

-- the width that a text is
abbrev pub width_of : List ℕ → Option Width
width_of text = of_number (number_of text)
  where
    of_number : Option ℕ → Option Width
    of_number None = None
    of_number (Some n) = width_of_number n

-- there is a value, or this is wrong
abbrev pub wrong_unless : {A : Type 0} → Option A → Usage → Option Usage
wrong_unless None usage = Some usage
wrong_unless (Some a) usage = None

-- a width is a number first, and then one of three
abbrev pub width_fault : Option ℕ → Option Width → Option Usage
width_fault None width = Some usage.U4
width_fault (Some n) width = wrong_unless width usage.U5

abbrev pub value_fault : ValueKind → List ℕ → Option Usage
value_fault kind.Flag text = None
value_fault kind.Text text = None
value_fault kind.Name text = wrong_unless (option_name text) usage.U8
value_fault kind.Width text = width_fault (number_of text) (width_of text)
value_fault kind.Number text = wrong_unless (number_of text) usage.U4
value_fault kind.Script text = wrong_unless (script_of text) usage.U4
