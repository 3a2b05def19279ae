-- What a format or pattern line that breaks no rule gives to its arguments.
use Rattle.std.proofs.Common.{◌≡◌, ◌≢◌, ℕ, suc, zero, ◌+◌, ◌-◌, ◌<◌, ◌≤◌, ◌==◌, ◌||◌, Bool, true, false, List, [], ◌∷◌, ◌++◌, length, get_or, Option, Some, None, refl, sym, inl, arith}
use Rattle.std.specs.Prelude.{pos, neg_ℤ, ◌^◌, All, AllPairs, IfSome, is_some, nat_eq, nat_le, nat_lt, not}
use Rattle.std.specs.Cmp.Lexicographic.{pointwise}
use Rattle.std.proofs.Math.Facts.{yes_leb}
use Rattle.std.proofs.lemmas.Bool.{not-false, or_parts}
use Rattle.std.proofs.lemmas.Bool.Decides.{nat_tests}
use Rattle.std.proofs.lemmas.List.{length_push}
use Rattle.std.proofs.lemmas.List.Elements.{All-nil, All-cons, All-push}
use Rattle.std.proofs.lemmas.List.Quantifiers.{all_pairs_push}
use Rattle.std.proofs.lemmas.Map.Entries.{All-lookup}
use Rattle.dt_values.specs.Types.{is_text}
use Rattle.dt_fields.specs.CNames.{IsCName, is_c_name}
use Rattle.dt_fields.specs.Faults.{Broken, where_broken, token}
use Rattle.dt_fields.specs.Segments.{segment_end, segment_length}
use Rattle.dt_fields.specs.SoundFields.{IsSoundField}
use Rattle.dt_fields.specs.Tables.{FieldTable, entry_at, is_held}
use Rattle.dt_fields.specs.declared.field.FieldDef.{FieldDef}
use Rattle.dt_fields.specs.declared.rule.Rule.TheVariants as rule
use Rattle.dt_fields.specs.declared.segment.Segment.{Segment}
use Rattle.dt_fields.specs.declared.segment.Segment.TheVariants as segment
use Rattle.dt_values.specs.declared.set.TheConstants.{MOST_ARGUMENTS}
use Rattle.dt_fields.proofs.NewNames.{none_passes}
use Rattle.dt_fields.proofs.Rows.{last_unbroken, one_more, prefix_empty, rest_empty, row_unbroken}
use Rattle.dt_scope.specs.ElementRows.{element_faults, element_rows, has_value, is_in_range, number_rows, place_rows, value_rows}
use Rattle.dt_scope.specs.Elements.{Element, set_named, format_named, constant, field_named, bits, in_place, other, element_of, signed_number}
use Rattle.dt_scope.specs.Gathering.{field_at, field_or_none, given, given_after, gathered, nothing_given}
use Rattle.dt_model.specs.Patterns.{GivenValues}
use Rattle.dt_scope.specs.Scope.{Scope}
use Rattle.dt_model.specs.Sound.{AreSoundValues, IsOfWord, IsSoundConstant, IsSoundValue}
use Rattle.dt_scope.specs.declared.gather.Gathered.{Gathered}
use Rattle.dt_model.specs.declared.value.FieldValue.{FieldValue}
use Rattle.dt_model.specs.declared.value.FieldValue.TheVariants.{Field, Constant}
use Rattle.dt_patterns.proofs.Unbroken.{texts_differ}

-- fields of lines that break no rule: they are sound, and refer to no argument
abbrev pub IsKeptField : ℕ → FieldDef → Type 0
IsKeptField width field = IsSoundValue width (Field field)

abbrev pub AreKeptFields : ℕ → FieldTable → Type 0
AreKeptFields width fields = All (λ f. IsKeptField width f.1) fields

-- what tokens that break no rule give
pub record AreGiven (width : ℕ) (values : GivenValues) : Type 0 where
  pub sound : AreSoundValues width values
  pub c_names : All (λ v. IsCName v.0) values
  pub differ : AllPairs (λ v w. v.0 ≢ w.0) values
  pub few : length values ≤ MOST_ARGUMENTS

no_pair : {X : Type 0} (R : X → X → Type 0) → AllPairs R []
no_pair R i j d h k = absurd (omega arith)

none_given : (width : ℕ) → AreGiven width []
none_given width = record {
  sound = All-nil (λ v. IsSoundValue width v.1);
  c_names = All-nil (λ v. IsCName v.0);
  differ = no_pair (λ v w. v.0 ≢ w.0);
  few = omega arith;
}

value_more : (width : ℕ) (values : GivenValues) (text name : List ℕ) (value : FieldValue) → AreGiven width values
    → IsSoundValue width value → IsCName name
    → where_broken (has_value values name) (rule.G5, token text)
    ++ where_broken (nat_le MOST_ARGUMENTS (length values)) (rule.A5, token text) ≡ []
    → AreGiven width (values ++ (name, value) ∷ [])
value_more width values text name value h kept named none =
    let v : List ℕ × FieldValue = (name, value) in
    let past : List Broken = where_broken (nat_le MOST_ARGUMENTS (length values)) (rule.A5, token text) in
    let rows : (has_value values name ≡ false) × (past ≡ []) =
    row_unbroken (has_value values name) (rule.G5, token text) past none in
    let others : All (λ v. is_text name v.0 ≡ false) values = none_passes (λ v. is_text name v.0) values rows.0 in
    record {
      sound = All-push (λ v. IsSoundValue width v.1) values v h.sound kept;
      c_names = All-push (λ v. IsCName v.0) values v h.c_names named;
      differ = all_pairs_push (λ v w. v.0 ≢ w.0) values v h.differ
          (λ k d below same. texts_differ name (get_or values k d).0 (others k d below) (sym same));
      few = one_more MOST_ARGUMENTS (length values) (length (values ++ v ∷ [])) (length_push values v)
          (last_unbroken (nat_le MOST_ARGUMENTS (length values)) (rule.A5, token text) rows.1);
    }

-- the field that a name stands for
held_is_kept : (width : ℕ) (held : Option FieldDef) → IfSome held (IsKeptField width) → not (is_some held) ≡ false
    → IsKeptField width (field_or_none held)
held_is_kept width None h e = absurd (cc)
held_is_kept width (Some field) h e = h

some_bit : (n : ℕ) → (n == 0) ≡ false → 1 ≤ n
some_bit n h = grind (arith, nat_tests)

within : (width n : ℕ) → nat_lt width n ≡ false → n ≤ width
within width n h = grind (arith, nat_tests)

-- the bits of the word at their place
placed_is_kept : (width before len : ℕ) (signed : Bool) → 1 ≤ len → before + len ≤ width
    → IsKeptField width (field_at width before len signed)
placed_is_kept width before len signed some fits =
    let s : Segment = segment.Bits (width - (before + len)) len signed in
    let sound : IsSoundField width (field_at width before len signed) = record {
      within = All-cons (λ s. segment_end s ≤ width) s [] (omega arith) (All-nil (λ s. segment_end s ≤ width));
      lengths = All-cons (λ s. 1 ≤ segment_length s) s [] some (All-nil (λ s. 1 ≤ segment_length s));
      few = omega arith;
      total = omega arith;
      some_value = inl (λ same. absurd (cc));
      apart = refl;
      c_name = tt;
    } in
    (sound, All-cons IsOfWord s [] tt (All-nil IsOfWord))

-- a constant in its range
negative_is_sound : (n : ℕ) → n ≤ 2 ^ 31 → IsSoundConstant (neg_ℤ (pos n))
negative_is_sound zero h = (omega (arith, yes_leb), omega (arith, yes_leb))
negative_is_sound (suc n) h = (omega (arith, yes_leb), omega (arith, yes_leb))

positive_is_sound : (n : ℕ) → n < 2 ^ 32 → IsSoundConstant (pos n)
positive_is_sound n h = (omega (arith, yes_leb), omega (arith, yes_leb))

at_most : (n bound : ℕ) → nat_le n bound ≡ true → n ≤ bound
at_most n bound h = grind (arith, nat_tests)

below : (n bound : ℕ) → nat_lt n bound ≡ true → n < bound
below n bound h = grind (arith, nat_tests)

constant_is_sound : (negative : Bool) (n : ℕ) → is_in_range negative n ≡ true
    → IsSoundConstant (signed_number negative n)
constant_is_sound true n h = negative_is_sound n (at_most n (2 ^ 31) h)
constant_is_sound false n h = positive_is_sound n (below n (2 ^ 32) h)

module _ (in_format : Bool) (width : ℕ) (scope : Scope) (fields : AreKeptFields width scope.fields) where
  element_given : (before : Gathered) (text : List ℕ) (e : Element)
      → element_rows in_format width scope before text e ≡ [] → AreGiven width before.values
      → AreGiven width (given width scope.fields before e).values
  element_given before text (set_named name) none h = h
  element_given before text (format_named name) none h = h
  element_given before text (constant name negative n) none h =
      let number : List Broken = number_rows text name negative n in
      let wide : List Broken = where_broken (not (is_in_range negative n)) (rule.G22, token text) in
      let first : (not (is_c_name name) ≡ false) × (wide ≡ []) =
      row_unbroken (not (is_c_name name)) (rule.G7, token text) wide
      (prefix_empty number (value_rows before text name) none) in
      value_more width before.values text name (Constant (signed_number negative n)) h
      (constant_is_sound negative n (not-false (is_in_range negative n)
      (last_unbroken (not (is_in_range negative n)) (rule.G22, token text) first.1)))
      (not-false (is_c_name name) first.0) (rest_empty number (value_rows before text name) none)
  element_given before text (bits bs) none h = h
  element_given before text other none h = h
  element_given before text (field_named name field) none h =
      let last : List Broken = value_rows before text name in
      let held : List Broken = where_broken (not (is_held scope.fields field)) (rule.G6, token text) in
      let first : (not (is_c_name name) ≡ false) × (held ++ last ≡ []) =
      row_unbroken (not (is_c_name name)) (rule.G7, token text) (held ++ last) none in
      let second : (not (is_held scope.fields field) ≡ false) × (last ≡ []) =
      row_unbroken (not (is_held scope.fields field)) (rule.G6, token text) last first.1 in
      value_more width before.values text name (Field (field_or_none (entry_at scope.fields field))) h
      (held_is_kept width (entry_at scope.fields field)
      (All-lookup (IsKeptField width) (pointwise nat_eq field) scope.fields fields) second.0)
      (not-false (is_c_name name) first.0) second.1
  element_given before text (in_place name len signed) none h =
      let place : List Broken = place_rows width before text name len in
      let wide : List Broken = where_broken (nat_lt width (length before.digits + len)) (rule.G8, token text) in
      let first : ((not (is_c_name name) || (len == 0)) ≡ false) × (wide ≡ []) =
      row_unbroken (not (is_c_name name) || (len == 0)) (rule.G7, token text) wide
      (prefix_empty place (value_rows before text name) none) in
      let parts : (not (is_c_name name) ≡ false) × ((len == 0) ≡ false) =
      or_parts (not (is_c_name name)) (len == 0) first.0 in
      value_more width before.values text name (Field (field_at width (length before.digits) len signed)) h
      (placed_is_kept width (length before.digits) len signed (some_bit len parts.1)
      (within width (length before.digits + len)
      (last_unbroken (nat_lt width (length before.digits + len)) (rule.G8, token text) first.1)))
      (not-false (is_c_name name) parts.0) (rest_empty place (value_rows before text name) none)

  tokens_given : (before : Gathered) (tokens : List (List ℕ)) → element_faults in_format width scope before tokens ≡ []
      → AreGiven width before.values
      → AreGiven width (given_after width scope.fields before tokens).values
  tokens_given before [] none h = h
  tokens_given before (t ∷ ts) none h =
      let now : List Broken = element_rows in_format width scope before t (element_of t) in
      let later : List Broken = element_faults in_format width scope
      (given width scope.fields before (element_of t)) ts in
      tokens_given (given width scope.fields before (element_of t)) ts (rest_empty now later none)
      (element_given before t (element_of t) (prefix_empty now later none) h)

  pub line_given : (tokens : List (List ℕ)) → element_faults in_format width scope nothing_given tokens ≡ []
      → AreGiven width (gathered width scope.fields tokens).values
  line_given tokens none = tokens_given nothing_given tokens none (none_given width)
