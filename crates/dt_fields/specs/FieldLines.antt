-- The rules of field lines, `%name` and its tokens, mostly as scripts/decodetree.py checks them. Their order is this
-- project's, and so are the limits, P8 and the keywords of P9.
use Rattle.std.specs.Prelude.{ℕ, ◌==◌, ◌&&◌, Bool, true, false, List, [], ◌∷◌, ◌++◌, length, drop, is_some, Some, None, nat_le, nat_lt, not}
use Rattle.dt_fields.specs.declared.rule.Rule.TheVariants as rule
use Rattle.dt_fields.specs.declared.field.FieldDef.{FieldDef}
use Rattle.dt_fields.specs.declared.segment.TheConstants.{MOST_SEGMENTS}
use Rattle.dt_fields.specs.CNames.{is_c_name}
use Rattle.dt_fields.specs.Faults.{Broken, where_broken, nothing, token, named, number}
use Rattle.dt_fields.specs.FieldTokens.{FieldToken, function, segment, other, field_token}
use Rattle.dt_fields.specs.Heads.{begins}
use Rattle.dt_fields.specs.Segments.{segment_length, segment_end, has_overlap, total_length}
use Rattle.dt_fields.specs.Tables.{FieldTable, is_held}

abbrev pub no_field : FieldDef
no_field = record { segments = []; function = None }

-- a token adds a segment or a function to what the tokens before it have made
abbrev pub field_with_token : FieldDef → FieldToken → FieldDef
field_with_token field (function name) = record { segments = field.segments; function = Some name }
field_with_token field (segment s) = record { segments = field.segments ++ s ∷ []; function = field.function }
field_with_token field other = field

abbrev pub field_with_tokens : FieldDef → List (List ℕ) → FieldDef
field_with_tokens field [] = field
field_with_tokens field (t ∷ ts) = field_with_tokens (field_with_token field (field_token t)) ts

-- the field of these tokens
abbrev pub field_of : List (List ℕ) → FieldDef
field_of tokens = field_with_tokens no_field tokens

abbrev pub is_second_function : FieldDef → FieldToken → Bool
is_second_function before (function name) = is_some before.function
is_second_function before (segment s) = false
is_second_function before other = false

abbrev pub is_bad_function : FieldToken → Bool
is_bad_function (function name) = not (is_c_name name)
is_bad_function (segment s) = false
is_bad_function other = false

abbrev pub is_no_form : FieldToken → Bool
is_no_form (function name) = false
is_no_form (segment s) = false
is_no_form other = true

abbrev pub has_no_length : FieldToken → Bool
has_no_length (function name) = false
has_no_length (segment s) = segment_length s == 0
has_no_length other = false

abbrev pub is_too_large : ℕ → FieldToken → Bool
is_too_large width (function name) = false
is_too_large width (segment s) = nat_lt width (segment_end s)
is_too_large width other = false

abbrev pub is_past_last : FieldDef → FieldToken → Bool
is_past_last before (function name) = false
is_past_last before (segment s) = nat_le MOST_SEGMENTS (length before.segments)
is_past_last before other = false

-- neither a segment nor a function
abbrev pub has_no_value : FieldDef → Bool
has_no_value field = length field.segments == 0 && not (is_some field.function)

-- the rules of a token, behind those before it
abbrev pub field_token_rows : ℕ → FieldDef → List ℕ → FieldToken → List Broken
field_token_rows width before text t =
    where_broken (is_second_function before t) (rule.P1, token text)
    ++ (where_broken (is_bad_function t) (rule.P9, token text)
    ++ (where_broken (is_no_form t) (rule.P2, token text)
    ++ (where_broken (has_no_length t) (rule.P8, token text)
    ++ (where_broken (is_too_large width t) (rule.P3, token text)
    ++ where_broken (is_past_last before t) (rule.P10, token text)))))

-- those of all tokens, in order
abbrev pub field_token_faults : ℕ → FieldDef → List (List ℕ) → List Broken
field_token_faults width before [] = []
field_token_faults width before (t ∷ ts) =
    field_token_rows width before t (field_token t)
    ++ field_token_faults width (field_with_token before (field_token t)) ts

-- the rules of the whole line
abbrev pub whole_field_faults : ℕ → FieldTable → List ℕ → FieldDef → List Broken
whole_field_faults width fields name field =
    where_broken (nat_lt width (total_length field.segments)) (rule.P4, number (total_length field.segments))
    ++ (where_broken (has_no_value field) (rule.P5, nothing)
    ++ (where_broken (has_overlap field.segments) (rule.P6, named name)
    ++ where_broken (is_held fields name) (rule.P7, named name)))

-- the rules that the line of this name and these tokens breaks, in order
abbrev pub field_faults : ℕ → FieldTable → List ℕ → List (List ℕ) → List Broken
field_faults width fields name tokens =
    field_token_faults width no_field tokens ++ whole_field_faults width fields name (field_of tokens)

-- the first of these tokens is `%` and a name
abbrev pub begins_field : List (List ℕ) → Bool
begins_field tokens = begins 37 tokens

-- the rules that a field line with these tokens breaks, in order: it sees the fields before it
abbrev pub field_line_faults : ℕ → FieldTable → List (List ℕ) → List Broken
field_line_faults width fields [] = []
field_line_faults width fields (t ∷ ts) = field_faults width fields (drop 1 t) ts

-- the name and the field that it defines
abbrev pub line_field : List (List ℕ) → List ℕ × FieldDef
line_field [] = ([], no_field)
line_field (t ∷ ts) = (drop 1 t, field_of ts)
