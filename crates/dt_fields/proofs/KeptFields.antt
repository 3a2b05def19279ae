-- A field line that breaks no rule defines a sound field, under a new name.
use Rattle.std.proofs.Common.{◌≡◌, ℕ, ◌≤◌, ◌==◌, false, List, [], ◌∷◌, ◌++◌, length, Option, Some, None, refl, inl, inr, arith}
use Rattle.std.specs.Prelude.{◌≢◌, ◌⊎◌, IsTrue, IfSome, IsSome, All, nat_lt, nat_le, not, is_some, drop, nat_eq}
use Rattle.std.specs.Cmp.Lexicographic.{pointwise}
use Rattle.std.proofs.lemmas.Bool.{not-false}
use Rattle.std.proofs.lemmas.Bool.Decides.{nat_tests}
use Rattle.std.proofs.lemmas.List.{length_push}
use Rattle.std.proofs.lemmas.List.Elements.{All-nil, All-push}
use Rattle.dt_values.specs.Names.{IsName}
use Rattle.dt_fields.specs.declared.field.FieldDef.{FieldDef}
use Rattle.dt_fields.specs.declared.rule.Rule.TheVariants as rule
use Rattle.dt_fields.specs.declared.segment.Segment.{Segment}
use Rattle.dt_fields.specs.declared.segment.TheConstants.{MOST_SEGMENTS}
use Rattle.dt_fields.specs.CNames.{IsCName, is_c_name}
use Rattle.dt_fields.specs.Faults.{Broken, where_broken, token, named, number, nothing}
use Rattle.dt_fields.specs.FieldLines.{begins_field, field_line_faults, field_of, field_token_faults, field_token_rows, field_with_token, field_with_tokens, has_no_value, line_field, no_field, whole_field_faults}
use Rattle.dt_fields.specs.FieldTokens.{FieldToken, function, segment, other, field_token}
use Rattle.dt_fields.specs.Segments.{has_overlap, segment_end, segment_length, total_length}
use Rattle.dt_fields.specs.SoundFields.{IsSoundField}
use Rattle.dt_fields.specs.Tables.{FieldTable, is_held}
use Rattle.dt_fields.proofs.MarkedNames.{marked_is_name}
use Rattle.dt_fields.proofs.NewNames.{none_held, other_names}
use Rattle.dt_fields.proofs.Rows.{prefix_empty, rest_empty, row_unbroken, last_unbroken, one_more}

-- what tokens that break no rule have made so far
record IsSoundSoFar (width : ℕ) (field : FieldDef) : Type 0 where
  within : All (λ s. segment_end s ≤ width) field.segments
  lengths : All (λ s. 1 ≤ segment_length s) field.segments
  few : length field.segments ≤ MOST_SEGMENTS
  c_name : IfSome field.function IsCName

none_so_far : (width : ℕ) → IsSoundSoFar width no_field
none_so_far width = record { within = All-nil (λ (s : Segment). segment_end s ≤ width); lengths = All-nil (λ (s : Segment). 1 ≤ segment_length s); few = omega arith; c_name = tt }

-- the rules of a segment that breaks none
record IsUnbrokenSegment (width count : ℕ) (s : Segment) : Type 0 where
  some_bit : (segment_length s == 0) ≡ false
  within : nat_lt width (segment_end s) ≡ false
  room : nat_le MOST_SEGMENTS count ≡ false

unbroken_segment : (width : ℕ) (before : FieldDef) (text : List ℕ) (s : Segment) → field_token_rows width before text (segment s) ≡ [] → IsUnbrokenSegment width (length before.segments) s
unbroken_segment width before text s h =
    let last : List Broken = where_broken (nat_le MOST_SEGMENTS (length before.segments)) (rule.P10, token text) in
    let large : List Broken = where_broken (nat_lt width (segment_end s)) (rule.P3, token text) in
    let first : ((segment_length s == 0) ≡ false) × (large ++ last ≡ []) = row_unbroken (segment_length s == 0) (rule.P8, token text) (large ++ last) h in
    let second : (nat_lt width (segment_end s) ≡ false) × (last ≡ []) = row_unbroken (nat_lt width (segment_end s)) (rule.P3, token text) last first.1 in
    record { some_bit = first.0; within = second.0; room = last_unbroken (nat_le MOST_SEGMENTS (length before.segments)) (rule.P10, token text) second.1 }

unbroken_function : (width : ℕ) (before : FieldDef) (text name : List ℕ) → field_token_rows width before text (function name) ≡ [] → IsCName name
unbroken_function width before text name h =
    let bad : List Broken = where_broken (not (is_c_name name)) (rule.P9, token text) ++ [] in
    let first : (is_some before.function ≡ false) × (bad ≡ []) = row_unbroken (is_some before.function) (rule.P1, token text) bad h in
    let second : (not (is_c_name name) ≡ false) × ([] ≡ []) = row_unbroken (not (is_c_name name)) (rule.P9, token text) [] first.1 in
    not-false (is_c_name name) second.0

at_least_one : (n : ℕ) → (n == 0) ≡ false → 1 ≤ n
at_least_one n h = grind (arith, nat_tests)

at_most : (width n : ℕ) → nat_lt width n ≡ false → n ≤ width
at_most width n h = grind (arith, nat_tests)

with_segment : (width : ℕ) (before : FieldDef) (s : Segment) → IsUnbrokenSegment width (length before.segments) s → IsSoundSoFar width before → IsSoundSoFar width (field_with_token before (segment s))
with_segment width before s h sound = record {
  within = All-push (λ s. segment_end s ≤ width) before.segments s sound.within (at_most width (segment_end s) h.within);
  lengths = All-push (λ s. 1 ≤ segment_length s) before.segments s sound.lengths (at_least_one (segment_length s) h.some_bit);
  few = one_more MOST_SEGMENTS (length before.segments) (length (before.segments ++ s ∷ [])) (length_push before.segments s) h.room;
  c_name = sound.c_name;
}

with_token : (width : ℕ) (before : FieldDef) (text : List ℕ) (t : FieldToken) → field_token_rows width before text t ≡ [] → IsSoundSoFar width before → IsSoundSoFar width (field_with_token before t)
with_token width before text (function name) h sound = record { within = sound.within; lengths = sound.lengths; few = sound.few; c_name = unbroken_function width before text name h }
with_token width before text (segment s) h sound = with_segment width before s (unbroken_segment width before text s h) sound
with_token width before text other h sound = sound

with_tokens : (width : ℕ) (before : FieldDef) (tokens : List (List ℕ)) → field_token_faults width before tokens ≡ [] → IsSoundSoFar width before → IsSoundSoFar width (field_with_tokens before tokens)
with_tokens width before [] h sound = sound
with_tokens width before (t ∷ ts) h sound =
    let now : List Broken = field_token_rows width before t (field_token t) in
    let later : List Broken = field_token_faults width (field_with_token before (field_token t)) ts in
    with_tokens width (field_with_token before (field_token t)) ts (rest_empty now later h) (with_token width before t (field_token t) (prefix_empty now later h) sound)

-- the rules of a whole line that breaks none
record IsUnbrokenWhole (width : ℕ) (fields : FieldTable) (name : List ℕ) (field : FieldDef) : Type 0 where
  total : nat_lt width (total_length field.segments) ≡ false
  some_value : has_no_value field ≡ false
  apart : has_overlap field.segments ≡ false
  new : is_held fields name ≡ false

unbroken_whole : (width : ℕ) (fields : FieldTable) (name : List ℕ) (field : FieldDef) → whole_field_faults width fields name field ≡ [] → IsUnbrokenWhole width fields name field
unbroken_whole width fields name field h =
    let held : List Broken = where_broken (is_held fields name) (rule.P7, named name) in
    let overlap : List Broken = where_broken (has_overlap field.segments) (rule.P6, named name) ++ held in
    let none : List Broken = where_broken (has_no_value field) (rule.P5, nothing) ++ overlap in
    let first : (nat_lt width (total_length field.segments) ≡ false) × (none ≡ []) = row_unbroken (nat_lt width (total_length field.segments)) (rule.P4, number (total_length field.segments)) none h in
    let second : (has_no_value field ≡ false) × (overlap ≡ []) = row_unbroken (has_no_value field) (rule.P5, nothing) overlap first.1 in
    let third : (has_overlap field.segments ≡ false) × (held ≡ []) = row_unbroken (has_overlap field.segments) (rule.P6, named name) held second.1 in
    record { total = first.0; some_value = second.0; apart = third.0; new = last_unbroken (is_held fields name) (rule.P7, named name) third.1 }

some_part : (segments : List Segment) (function : Option (List ℕ)) → has_no_value (record { segments = segments; function = function }) ≡ false → (segments ≢ []) ⊎ IsSome function
some_part segments (Some name) h = inr refl
some_part [] None h = absurd (cc)
some_part (s ∷ ss) None h = inl (λ same. absurd (cc))

-- the field of a line that breaks no rule is sound
pub unbroken_field_is_sound : (width : ℕ) (fields : FieldTable) (tokens : List (List ℕ)) → IsTrue (begins_field tokens) → field_line_faults width fields tokens ≡ [] → IsSoundField width (line_field tokens).1
unbroken_field_is_sound width fields [] begins h = absurd (cc)
unbroken_field_is_sound width fields (t ∷ ts) begins h =
    let tokens : List Broken = field_token_faults width no_field ts in
    let whole : List Broken = whole_field_faults width fields (drop 1 t) (field_of ts) in
    let sound : IsSoundSoFar width (field_of ts) = with_tokens width no_field ts (prefix_empty tokens whole h) (none_so_far width) in
    let rest : IsUnbrokenWhole width fields (drop 1 t) (field_of ts) = unbroken_whole width fields (drop 1 t) (field_of ts) (rest_empty tokens whole h) in
    record {
      within = sound.within;
      lengths = sound.lengths;
      few = sound.few;
      total = at_most width (total_length (field_of ts).segments) rest.total;
      some_value = some_part (field_of ts).segments (field_of ts).function rest.some_value;
      apart = rest.apart;
      c_name = sound.c_name;
    }

-- its name is a name, and no field's
pub unbroken_field_is_named : (tokens : List (List ℕ)) → IsTrue (begins_field tokens) → IsName (line_field tokens).0
unbroken_field_is_named [] begins = absurd (cc)
unbroken_field_is_named (t ∷ ts) begins = marked_is_name 37 t begins

pub unbroken_field_is_new : (width : ℕ) (fields : FieldTable) (tokens : List (List ℕ)) → IsTrue (begins_field tokens) → field_line_faults width fields tokens ≡ [] → All (λ f. f.0 ≢ (line_field tokens).0) fields
unbroken_field_is_new width fields [] begins h = absurd (cc)
unbroken_field_is_new width fields (t ∷ ts) begins h =
    let tokens : List Broken = field_token_faults width no_field ts in
    let whole : List Broken = whole_field_faults width fields (drop 1 t) (field_of ts) in
    let rest : IsUnbrokenWhole width fields (drop 1 t) (field_of ts) = unbroken_whole width fields (drop 1 t) (field_of ts) (rest_empty tokens whole h) in
    other_names (λ f. f.0) (drop 1 t) fields (none_held (pointwise nat_eq (drop 1 t)) fields rest.new)
