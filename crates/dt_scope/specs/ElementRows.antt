-- The rules of the tokens of format and pattern lines, mostly as scripts/decodetree.py checks them. The order of the rules
-- is this project's, and so are the limits and the keywords.
use Rattle.std.specs.Prelude.{ℕ, ◌+◌, ◌^◌, ◌==◌, ◌≤◌, ◌||◌, Bool, true, false, List, [], ◌∷◌, ◌++◌, length, is_some}
use Rattle.std.specs.Prelude.{nat_le, nat_lt, not}
use Rattle.std.specs.List.{list_any}
use Rattle.dt_values.specs.Types.{is_text}
use Rattle.dt_fields.specs.CNames.{is_c_name}
use Rattle.dt_fields.specs.declared.rule.Rule.TheVariants as rule
use Rattle.dt_values.specs.declared.set.TheConstants.{MOST_ARGUMENTS}
use Rattle.dt_fields.specs.Faults.{Broken, where_broken, token}
use Rattle.dt_values.specs.SetsByName.{set_at}
use Rattle.dt_fields.specs.Tables.{FieldTable, is_held}
use Rattle.dt_values.specs.declared.set.SetDef.{SetDef}
use Rattle.dt_scope.specs.Elements.{Element, set_named, format_named, constant, field_named, bits, in_place, other}
use Rattle.dt_scope.specs.Elements.{element_of}
use Rattle.dt_scope.specs.Fitting.{ValuesFit}
use Rattle.dt_scope.specs.FormatsByName.{is_format}
use Rattle.dt_scope.specs.Gathering.{given}
use Rattle.dt_scope.specs.Scope.{Scope}
use Rattle.dt_model.specs.declared.format.Format.{Format}
use Rattle.dt_scope.specs.declared.gather.Gathered.{Gathered}
use Rattle.dt_model.specs.Patterns.{GivenValues}

-- an argument is among those that get something
abbrev pub has_value : GivenValues → List ℕ → Bool
has_value values name = list_any (λ v. is_text name v.0) values

-- those of an argument that gets something
abbrev pub value_rows : Gathered → List ℕ → List ℕ → List Broken
value_rows before text name =
    where_broken (has_value before.values name) (rule.G5, token text)
    ++ where_broken (nat_le MOST_ARGUMENTS (length before.values)) (rule.A5, token text)

-- that of bits as they are written
abbrev pub bits_rows : ℕ → Gathered → List ℕ → List ℕ → List Broken
bits_rows width before text bs = where_broken (nat_lt width (length before.digits + length bs)) (rule.G8, token text)

-- those of bits at their place
abbrev pub place_rows : ℕ → Gathered → List ℕ → List ℕ → ℕ → List Broken
place_rows width before text name len =
    where_broken (not (is_c_name name) || (len == 0)) (rule.G7, token text)
    ++ where_broken (nat_lt width (length before.digits + len)) (rule.G8, token text)

-- those of a set
abbrev pub set_rows : List SetDef → Gathered → List ℕ → List ℕ → List Broken
set_rows sets before text name =
    where_broken (is_some before.set) (rule.G1, token text)
    ++ where_broken (not (is_some (set_at sets name))) (rule.G2, token text)

-- those of a format, which stands on no line of a format
abbrev pub format_rows : Bool → List Format → Gathered → List ℕ → List ℕ → List Broken
format_rows in_format formats before text name =
    where_broken in_format (rule.G10, token text)
    ++ (where_broken (is_some before.format) (rule.G3, token text)
    ++ where_broken (not (is_format formats name)) (rule.G4, token text))

-- those of an argument with a field
abbrev pub field_rows : FieldTable → Gathered → List ℕ → List ℕ → List ℕ → List Broken
field_rows fields before text name field =
    where_broken (not (is_c_name name)) (rule.G7, token text)
    ++ (where_broken (not (is_held fields field)) (rule.G6, token text)
    ++ value_rows before text name)

-- a constant is from -2^31 to 2^32 - 1
abbrev pub is_in_range : Bool → ℕ → Bool
is_in_range true n = nat_le n (2 ^ 31)
is_in_range false n = nat_lt n (2 ^ 32)

-- those of the name and the number of a constant
abbrev pub number_rows : List ℕ → List ℕ → Bool → ℕ → List Broken
number_rows text name negative n =
    where_broken (not (is_c_name name)) (rule.G7, token text)
    ++ where_broken (not (is_in_range negative n)) (rule.G22, token text)

-- those of an argument with a constant
abbrev pub constant_rows : Gathered → List ℕ → List ℕ → Bool → ℕ → List Broken
constant_rows before text name negative n = number_rows text name negative n ++ value_rows before text name

-- the rules of a token of a format's line or a pattern's, behind those before it; an argument has a C name, and bits at
-- their place are some
abbrev pub element_rows : Bool → ℕ → Scope → Gathered → List ℕ → Element → List Broken
element_rows in_format width scope before text (set_named name) = set_rows scope.sets before text name
element_rows in_format width scope before text (format_named name) =
    format_rows in_format scope.formats before text name
element_rows in_format width scope before text (constant name negative n) = constant_rows before text name negative n
element_rows in_format width scope before text (field_named name field) = field_rows scope.fields before text name field
element_rows in_format width scope before text (bits bs) = bits_rows width before text bs
element_rows in_format width scope before text (in_place name len signed) =
    place_rows width before text name len ++ value_rows before text name
element_rows in_format width scope before text other = (rule.G7, token text) ∷ []

-- those of all tokens, in order
abbrev pub element_faults : Bool → ℕ → Scope → Gathered → List (List ℕ) → List Broken
element_faults in_format width scope before [] = []
element_faults in_format width scope before (t ∷ ts) =
    element_rows in_format width scope before t (element_of t)
    ++ element_faults in_format width scope (given width scope.fields before (element_of t)) ts

-- how much a line can give while it breaks no rule
pub record IsSmall (width : ℕ) (g : Gathered) : Type 0 where
  pub digits : length g.digits ≤ width
  pub values : length g.values ≤ MOST_ARGUMENTS
  pub fit : ValuesFit g.values
