-- The set and the format of a line, and those of a line that names none (docs/devel/decodetree.rst, "Formats" and
-- "Patterns"). The exact rules and the names of new ones are this project's.
use Rattle.std.specs.Prelude.{ℕ, ◌≡◌, ◌==◌, ◌&&◌, ◌||◌, Bool, true, false, not, List, [], ◌∷◌, ◌++◌, length, filter, map, get_or}
use Rattle.std.specs.Prelude.{slice_get, Option, Some, None, unwrap_or, codes}
use Rattle.std.specs.Cmp.Lexicographic.{pointwise}
use Rattle.std.specs.Fmt.{decimal}
use Rattle.std.specs.List.{list_all, list_any, position_or_len}
use Rattle.dt_values.specs.Types.{is_text}
use Rattle.dt_values.specs.Widths.{width_bits}
use Rattle.dt_values.specs.declared.ctype.CType.{CType}
use Rattle.dt_values.specs.declared.ctype.CType.TheVariants as c
use Rattle.dt_values.specs.declared.ctype.Member.{Member}
use Rattle.dt_fields.specs.Arguments.{has_argument}
use Rattle.dt_values.specs.Members.{has_member}
use Rattle.dt_values.specs.SetsByName.{place_of_set, set_at}
use Rattle.dt_fields.specs.declared.field.FieldDef.{FieldDef}
use Rattle.dt_fields.specs.declared.segment.Segment.{Segment}
use Rattle.dt_fields.specs.declared.segment.Segment.TheVariants.{Bits, Named}
use Rattle.dt_values.specs.declared.set.SetDef.{SetDef}
use Rattle.dt_scope.specs.ElementRows.{has_value}
use Rattle.dt_scope.specs.FormatsByName.{format_at, place_of_format}
use Rattle.dt_model.specs.Patterns.{GivenValues}
use Rattle.dt_model.specs.declared.format.Format.{Format}
use Rattle.dt_scope.specs.declared.gather.Gathered.{Gathered}
use Rattle.dt_patterns.specs.declared.infer.Choice.{Choice}
use Rattle.dt_model.specs.declared.options.Options.{Options}
use Rattle.dt_model.specs.declared.value.FieldValue.{FieldValue}
use Rattle.dt_model.specs.declared.value.FieldValue.TheVariants.{Field, Constant}
use Rattle.dt_model.specs.View.{set_of_format}

abbrev pub is_int : CType → Bool
is_int c.Int = true
is_int c.I8 = false
is_int c.I16 = false
is_int c.I32 = false
is_int c.I64 = false
is_int c.U8 = false
is_int c.U16 = false
is_int c.U32 = false
is_int c.U64 = false
is_int (c.Other name) = false

-- a set has exactly these arguments, in any order, all of type `int`
abbrev pub has_exactly : GivenValues → SetDef → Bool
has_exactly values set =
    list_all (λ m. is_int m.ctype) set.members
    && (list_all (λ v. has_member set.members v.0) values
    && list_all (λ m. has_value values m.name) set.members)

-- the number of the first such set, or that of a new one
abbrev pub matching_set : GivenValues → List SetDef → ℕ
matching_set values sets = position_or_len (has_exactly values) sets

-- one of these arguments is none of a set
abbrev pub has_new_argument : GivenValues → List SetDef → Bool
has_new_argument values sets = list_any (λ v. not (has_argument sets v.0)) values

-- the set that a line names, or else one by its arguments
abbrev pub set_chosen : List SetDef → GivenValues → Option (List ℕ) → ℕ
set_chosen sets values None = matching_set values sets
set_chosen sets values (Some name) = unwrap_or (place_of_set sets name) (length sets)

abbrev pub same_sign : Bool → Bool → Bool
same_sign true signed = signed
same_sign false signed = not signed

abbrev pub same_segment : Segment → Segment → Bool
same_segment (Bits pos length signed) (Bits pos2 length2 signed2) =
    (pos == pos2) && ((length == length2) && same_sign signed signed2)
same_segment (Bits pos length signed) (Named name2 length2 signed2) = false
same_segment (Named name length signed) (Bits pos2 length2 signed2) = false
same_segment (Named name length signed) (Named name2 length2 signed2) =
    is_text name name2 && ((length == length2) && same_sign signed signed2)

abbrev pub same_function : Option (List ℕ) → Option (List ℕ) → Bool
same_function None None = true
same_function None (Some name) = false
same_function (Some name) None = false
same_function (Some name) (Some name2) = is_text name name2

abbrev pub same_field : FieldDef → FieldDef → Bool
same_field f g = pointwise same_segment f.segments g.segments && same_function f.function g.function

-- the same field; a constant is no field
abbrev pub same_value : FieldValue → FieldValue → Bool
same_value (Field f) (Field g) = same_field f g
same_value (Field f) (Constant z) = false
same_value (Constant z) other = false

-- an argument gets the same field among these
abbrev pub gives : GivenValues → List ℕ × FieldValue → Bool
gives values v = list_any (λ w. is_text v.0 w.0 && same_value v.1 w.1) values

abbrev pub is_constant : FieldValue → Bool
is_constant (Field f) = false
is_constant (Constant z) = true

-- what a line gives without its constants, and these alone
abbrev pub fields_of : GivenValues → GivenValues
fields_of values = filter (λ v. not (is_constant v.1)) values

abbrev pub constants_of : GivenValues → GivenValues
constants_of values = filter (λ v. is_constant v.1) values

-- a format gives just the fields that are among these values, the same by argument and content, and no constant
abbrev pub has_fields_of : GivenValues → Format → Bool
has_fields_of values f = list_all (λ v. is_constant v.1 || gives f.values v) values && list_all (gives values) f.values

-- A format of this set, for words of so many bits, that gives just the fields of a line. It has the field mask of the
-- line too, since the same fields take the same bits of the word.
abbrev pub fits_pattern : ℕ → ℕ → GivenValues → Format → Bool
fits_pattern width set values f = (f.set == set) && ((f.bits == width) && has_fields_of values f)

-- the number of the first such format, or that of a new one
abbrev pub matching_format : ℕ → ℕ → GivenValues → List Format → ℕ
matching_format width set values formats = position_or_len (fits_pattern width set values) formats

-- a new set has the decoder's name and the number of sets before it, and the arguments of the line
abbrev pub new_set_name : List ℕ → ℕ → List ℕ
new_set_name decode count = decode ++ decimal count

abbrev pub int_member : List ℕ × FieldValue → Member
int_member v = record { ctype = c.Int; name = v.0 }

abbrev pub new_set : List ℕ → GivenValues → SetDef
new_set name values = record { name = name; members = map int_member values; outside = false }

-- a new format has the decoder's name, `_Fmt_` and the number of formats before it, and these fields of the line; it
-- fixes and ignores no bit
abbrev pub new_format_name : List ℕ → ℕ → List ℕ
new_format_name decode count = decode ++ (codes "_Fmt_" ++ decimal count)

abbrev pub new_format : ℕ → List ℕ → ℕ → GivenValues → Format
new_format width name set values = record {
  name = name;
  set = set;
  bits = width;
  fixed_bits = 0;
  fixed_mask = 0;
  ignored = 0;
  values = values;
}

abbrev pub name_where : Bool → List ℕ → Option (List ℕ)
name_where true name = Some name
name_where false name = None

-- the numbers of the set and the format that a pattern takes, and the names of those that are new
abbrev pub choice_with : List ℕ → ℕ → ℕ → ℕ → ℕ → Choice
choice_with decode sets formats set format = record {
  set = set;
  format = format;
  new_set = name_where (set == sets) (new_set_name decode sets);
  new_format = name_where (format == formats) (new_format_name decode formats);
}

-- those of a pattern that names no format
abbrev pub inferred_choice : Options → List SetDef → List Format → Gathered → Choice
inferred_choice options sets formats g =
    choice_with options.decode (length sets) (length formats) (set_chosen sets g.values g.set)
    (matching_format (width_bits options.width) (set_chosen sets g.values g.set) g.values formats)

-- the place of the format that a line names
abbrev pub named_place : List Format → Option (List ℕ) → Option ℕ
named_place formats None = None
named_place formats (Some name) = place_of_format formats name

-- the format at a place
abbrev pub format_in : List Format → Option ℕ → Option Format
format_in formats None = None
format_in formats (Some place) = slice_get formats place

-- the format that a line names
abbrev pub named_format : List Format → Option (List ℕ) → Option Format
named_format formats name = format_in formats (named_place formats name)

abbrev pub named_choice : List Format → ℕ → Choice
named_choice formats place = record {
  set = set_of_format formats place;
  format = place;
  new_set = None;
  new_format = None;
}

abbrev pub choice_by : Options → List SetDef → List Format → Gathered → Option ℕ → Choice
choice_by options sets formats g None = inferred_choice options sets formats g
choice_by options sets formats g (Some place) = named_choice formats place

-- those of a pattern
abbrev pub choice_of : Options → List SetDef → List Format → Gathered → Choice
choice_of options sets formats g = choice_by options sets formats g (named_place formats g.format)

-- those of a format's line; the format itself is the next
abbrev pub format_choice : Options → List SetDef → List Format → Gathered → Choice
format_choice options sets formats g =
    let set = set_chosen sets g.values g.set in record {
      set = set;
      format = length formats;
      new_set = name_where (set == length sets) (new_set_name options.decode (length sets));
      new_format = None;
    }

-- what new ones add
abbrev pub sets_with : List SetDef → GivenValues → Option (List ℕ) → List SetDef
sets_with sets values None = sets
sets_with sets values (Some name) = sets ++ new_set name values ∷ []

abbrev pub formats_with : ℕ → List Format → ℕ → GivenValues → Option (List ℕ) → List Format
formats_with width formats set values None = formats
formats_with width formats set values (Some name) = formats ++ new_format width name set values ∷ []

-- no set has the name of the new one, if there is one
abbrev pub IsNewSetFree : List SetDef → Choice → Type 0
IsNewSetFree sets choice = (name : List ℕ) → choice.new_set ≡ Some name → set_at sets name ≡ None

-- no format has the name of the new one, if there is one
abbrev pub IsNewFormatFree : List Format → Choice → Type 0
IsNewFormatFree formats choice = (name : List ℕ) → choice.new_format ≡ Some name → format_at formats name ≡ None
