-- What the tokens of a format or pattern line give it, one after another (docs/devel/decodetree.rst, "Formats" and
-- "Patterns").
use Rattle.std.specs.Prelude.{ℕ, ◌+◌, ◌-◌, Bool, List, [], ◌∷◌, ◌++◌, length, Option, Some, None, replicate}
use Rattle.dt_fields.specs.FieldLines.{no_field}
use Rattle.dt_fields.specs.Tables.{FieldTable, entry_at}
use Rattle.dt_fields.specs.declared.field.FieldDef.{FieldDef}
use Rattle.dt_fields.specs.declared.segment.Segment.TheVariants as segment
use Rattle.dt_scope.specs.Elements.{Element, set_named, format_named, constant, field_named, bits, in_place, other}
use Rattle.dt_scope.specs.Elements.{element_of, signed_number}
use Rattle.dt_scope.specs.declared.gather.Gathered.{Gathered}
use Rattle.dt_model.specs.declared.value.FieldValue.{FieldValue}
use Rattle.dt_model.specs.declared.value.FieldValue.TheVariants.{Field, Constant}

abbrev pub nothing_given : Gathered
nothing_given = record { set = None; format = None; digits = []; values = [] }

abbrev pub field_or_none : Option FieldDef → FieldDef
field_or_none None = no_field
field_or_none (Some field) = field

-- the field of so many bits behind so many, from the most significant end of a word
abbrev pub field_at : ℕ → ℕ → ℕ → Bool → FieldDef
field_at width before len signed =
    record { segments = segment.Bits (width - (before + len)) len signed ∷ []; function = None }

abbrev pub with_value : Gathered → List ℕ → FieldValue → Gathered
with_value g name value = record g { values = g.values ++ (name, value) ∷ [] }

-- bits behind the others
abbrev pub with_bits : Gathered → List ℕ → Gathered
with_bits g bs = record g { digits = g.digits ++ bs }

-- bits of a field behind the others, each a `.`
abbrev pub with_dots : Gathered → ℕ → Gathered
with_dots g len = with_bits g (replicate len 46)

-- an argument with the bits at this place
abbrev pub placed : ℕ → Gathered → List ℕ → ℕ → Bool → Gathered
placed width g name len signed =
    with_dots (with_value g name (Field (field_at width (length g.digits) len signed))) len

abbrev pub given : ℕ → FieldTable → Gathered → Element → Gathered
given width fields g (set_named name) = record g { set = Some name }
given width fields g (format_named name) = record g { format = Some name }
given width fields g (constant name negative n) = with_value g name (Constant (signed_number negative n))
given width fields g (field_named name field) = with_value g name (Field (field_or_none (entry_at fields field)))
given width fields g (bits bs) = with_bits g bs
given width fields g (in_place name len signed) = placed width g name len signed
given width fields g other = g

abbrev pub given_after : ℕ → FieldTable → Gathered → List (List ℕ) → Gathered
given_after width fields g [] = g
given_after width fields g (t ∷ ts) = given_after width fields (given width fields g (element_of t)) ts

-- what these tokens give
abbrev pub gathered : ℕ → FieldTable → List (List ℕ) → Gathered
gathered width fields tokens = given_after width fields nothing_given tokens
