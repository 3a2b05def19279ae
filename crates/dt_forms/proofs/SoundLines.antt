-- What lines that break no rule define.
use Rattle.std.proofs.Common.{◌≡◌, ◌≢◌, ℕ, suc, zero, ◌+◌, ◌-◌, ◌^◌, ◌<◌, ◌≤◌, ◌==◌, ◌&&◌, ◌||◌, ◌⊎◌, Bool, true, false, List, [], ◌∷◌, ◌++◌, length, get_or, map, take, Option, Some, None, refl, ap, ◌∙◌, sym, subst, inl, inr, ⊎_elim, arith, bit_and}
use Rattle.std.specs.Prelude.{not, nat_le, is_some, codes, slice_get, IsTrue}
use Rattle.std.specs.List.{All, AllPairs, list_any}
use Rattle.std.specs.List.Sorted.{IsPermutation}
use Rattle.std.proofs.Math.Pow.{pow_mono}
use Rattle.std.proofs.lemmas.Bool.{eqb-true}
use Rattle.std.proofs.lemmas.Bool.Decides.{nat_tests}
use Rattle.std.proofs.lemmas.List.{append-nil, get_or-map, length-take-le, length_push}
use Rattle.std.proofs.lemmas.List.Elements.{All-filter, All-nil, All-push, All-weaker}
use Rattle.std.proofs.lemmas.List.Kept.{AllPairs-filter}
use Rattle.std.proofs.lemmas.List.Quantifiers.{all_pairs_push, position-Some}
use Rattle.std.proofs.lemmas.List.Sorted.{IsPermutation-trans}
use Rattle.std.proofs.lemmas.Option.{get_or_from_slice_get, slice_get-get_or}
use Rattle.dt_values.specs.Names.{IsName}
use Rattle.dt_values.specs.Types.{is_text}
use Rattle.dt_values.specs.Widths.{width_bits}
use Rattle.dt_values.specs.declared.ctype.Member.{Member}
use Rattle.dt_lines.specs.declared.line.Position.{Position}
use Rattle.dt_values.specs.declared.set.SetDef.{SetDef}
use Rattle.dt_fields.specs.FieldLines.{line_field}
use Rattle.dt_fields.specs.declared.field.FieldDef.{FieldDef}
use Rattle.dt_fields.specs.SetLines.{begins_set, is_taken, line_set, set_line_faults}
use Rattle.dt_values.specs.Members.{has_member}
use Rattle.dt_fields.specs.Faults.{where_broken, named, nothing, token, number}
use Rattle.dt_fields.specs.declared.rule.Rule.TheVariants as rule
use Rattle.dt_values.specs.SetsByName.{set_at}
use Rattle.dt_fields.specs.SoundSets.{IsSoundSet}
use Rattle.dt_scope.specs.declared.bits.Bits.{Bits}
use Rattle.dt_model.specs.declared.format.Format.{Format}
use Rattle.dt_model.specs.declared.pattern.Pattern.{Pattern}
use Rattle.dt_model.specs.declared.value.FieldValue.{FieldValue}
use Rattle.dt_forms.specs.declared.head.Head.{Head}
use Rattle.dt_forms.specs.declared.head.Head.TheVariants as head
use Rattle.dt_scope.specs.declared.gather.Gathered.{Gathered}
use Rattle.dt_patterns.specs.declared.infer.Choice.{Choice}
use Rattle.dt_model.specs.declared.options.Options.{Options}
use Rattle.dt_model.specs.declared.limits.TheConstants.{MOST_DEPTH, MOST_PATTERNS}
use Rattle.dt_scope.specs.Bits.{bits_at_top, is_partial}
use Rattle.dt_scope.specs.ElementRows.{element_faults}
use Rattle.dt_scope.specs.FormatsByName.{is_format}
use Rattle.dt_scope.specs.Gathering.{gathered, nothing_given}
use Rattle.dt_scope.specs.declared.kind.Kind.{Kind}
use Rattle.dt_scope.specs.declared.kind.Opening.{Opening}
use Rattle.dt_scope.specs.Marks.{Mark, opens, closes, pattern_mark}
use Rattle.dt_model.specs.Options.{IsOptionName}
use Rattle.dt_model.specs.Trees.{numbers_from}
use Rattle.dt_model.specs.Patterns.{GivenValues}
use Rattle.dt_scope.specs.Scope.{Scope, nothing_defined, pattern_names}
use Rattle.dt_forms.specs.FileLines.{FileLine, line_position}
use Rattle.dt_patterns.specs.FormatLines.{after_format, format_faults, format_with, whole_format_rows}
use Rattle.dt_forms.specs.Heads.{head_of}
use Rattle.dt_patterns.specs.Inference.{choice_by, choice_of, fields_of, format_choice, format_in, formats_with, inferred_choice, int_member, is_constant, matching_format, name_where, named_choice, named_format, named_place, new_format, new_format_name, new_set, new_set_name, set_chosen, sets_with}
use Rattle.dt_patterns.specs.LineArguments.{argument_rows, format_argument_rows, outside_rows}
use Rattle.dt_patterns.specs.LineBits.{base_rows, base_values, bits_with_base, fields_with_base, left_rows, meeting_rows, shared_bits_row}
use Rattle.dt_patterns.specs.LineNames.{has_other_set, is_set_name_taken, name_rows, names_other_set, new_name_row, new_name_rows, own_name_rows}
use Rattle.dt_model.specs.View.{set_number}
use Rattle.dt_patterns.specs.PatternLines.{after_pattern, mask_rows, pattern_faults, pattern_of, scope_with_pattern, whole_rows}
use Rattle.dt_forms.specs.Rules.{after_closing, after_head, after_line, after_lines, after_opening, after_tokens, faults_from, faults_in, faults_of_line, head_faults}
use Rattle.dt_forms.specs.Structure.{extra_rows, indentation_row, opening_rows, pattern_row, structure_rows}
use Rattle.dt_model.specs.Sound.{AreMasks, HaveOneSet, IsSoundValue, given_names}
use Rattle.dt_patterns.proofs.Additions.{FormatsDiffer, IsFormatChosen, IsSetChosen, IsSoundFormat, IsSoundOf, SetsDiffer, choose_format, choose_set, format_kept, kept_by_formats, kept_by_sets, members_at, names_differ_more, one_set_more, same_set, set_number_kept, set_within, values_at}
use Rattle.dt_patterns.proofs.Arguments.{AreArgumentsIn, arguments_are_given, inside_by, member_names, new_arguments_are_given, value_names}
use Rattle.dt_forms.proofs.EntryDepths.{AreNested, depth_after, depth_more, nested_more}
use Rattle.dt_forms.proofs.EntryNumbers.{marked, marked_both, one_marked}
use Rattle.dt_scope.proofs.PatternDigits.{none_at_top, whole_at_top}
use Rattle.dt_forms.proofs.Faults.{none_on}
use Rattle.dt_forms.proofs.HeadTokens.{field_begins, format_is_named, pattern_is_named, set_begins}
use Rattle.dt_patterns.proofs.JoinedMasks.{joined_masks}
use Rattle.dt_forms.proofs.KeptFieldLines.{line_is_kept}
use Rattle.dt_patterns.proofs.LineValues.{AreGiven, AreKeptFields, IsKeptField, line_given}
use Rattle.dt_patterns.proofs.NumberedNames.{numbered_is_name}
use Rattle.dt_patterns.proofs.SameNames.{text_decides}
use Rattle.dt_patterns.proofs.SetNumbers.{set_of_some}
use Rattle.dt_patterns.proofs.SoundBits.{digit_masks}
use Rattle.dt_fields.proofs.KeptSets.{unbroken_set_is_new, unbroken_set_is_sound}
use Rattle.dt_fields.proofs.NewNames.{none_found}
use Rattle.dt_patterns.proofs.Unbroken.{both_empty, not_broken, same_number, texts_differ}

-- what so many lines, with so many left, define
pub record IsSoundScope (width limit left : ℕ) (scope : Scope) : Type 0 where
  pub few_sets : length scope.sets + left ≤ limit
  pub few_formats : length scope.formats + left ≤ limit
  pub fields : AreKeptFields width scope.fields
  pub sets : All IsSoundSet scope.sets
  pub sets_differ : SetsDiffer scope.sets
  pub formats : All (IsSoundFormat width scope.sets) scope.formats
  pub formats_differ : FormatsDiffer scope.formats
  pub patterns : All (IsSoundOf width scope.sets scope.formats) scope.patterns
  pub one_set : AllPairs (HaveOneSet scope.formats) scope.patterns
  pub few : length scope.patterns ≤ MOST_PATTERNS
  pub numbers : marked scope.marks ≡ numbers_from 0 (length scope.patterns)
  pub nested : AreNested 0 scope.marks
  pub depth : depth_after 0 scope.marks ≡ length scope.groups

-- fewer lines are left
fewer_left : (width limit left less : ℕ) (scope : Scope) → less ≤ left → IsSoundScope width limit left scope
    → IsSoundScope width limit less scope
fewer_left width limit left less scope h k = record {
  few_sets = let few : length scope.sets + left ≤ limit = k.few_sets in omega arith;
  few_formats = let few : length scope.formats + left ≤ limit = k.few_formats in omega arith;
  fields = k.fields;
  sets = k.sets;
  sets_differ = k.sets_differ;
  formats = k.formats;
  formats_differ = k.formats_differ;
  patterns = k.patterns;
  one_set = k.one_set;
  few = k.few;
  numbers = k.numbers;
  nested = k.nested;
  depth = k.depth;
}

none_differ : {X : Type 0} (R : X → X → Type 0) → AllPairs R []
none_differ R i j d h k = absurd (omega arith)

pub nothing_sound : (width limit : ℕ) → IsSoundScope width limit limit nothing_defined
nothing_sound width limit = record {
  few_sets = omega arith;
  few_formats = omega arith;
  fields = All-nil (λ (f : List ℕ × FieldDef). IsKeptField width f.1);
  sets = All-nil IsSoundSet;
  sets_differ = none_differ (λ (s t : SetDef). s.name ≢ t.name);
  formats = All-nil (IsSoundFormat width []);
  formats_differ = none_differ (λ (f g : Format). f.name ≢ g.name);
  patterns = All-nil (IsSoundOf width [] []);
  one_set = none_differ (HaveOneSet []);
  few = omega arith;
  numbers = refl;
  nested = tt;
  depth = refl;
}

new_is_free : (taken : List ℕ → Bool) (is_new : Bool) (name : List ℕ) → new_name_row taken (name_where is_new name) ≡ []
    → is_new ≡ true → taken name ≡ false
new_is_free taken true name h e = not_broken (taken name) _ h
new_is_free taken false name h e = absurd (cc)

first_half : (a b : Bool) → (a || b) ≡ false → a ≡ false
first_half true b e = absurd (cc)
first_half false b e = refl

-- a set of a name that isn't taken
pub names_free : (sets : List SetDef) (patterns : List (List ℕ)) (name : List ℕ) → is_taken sets patterns name ≡ false
    → All (λ t. t.name ≢ name) sets
names_free sets patterns name h k d below e =
    texts_differ name (get_or sets k d).name
    (none_found (λ (s : SetDef). is_text name s.name) sets
    (first_half (is_some (set_at sets name)) (list_any (is_text name) patterns) h) k d below) (sym e)

formats_free : (formats : List Format) (name : List ℕ) → is_format formats name ≡ false
    → All (λ f. f.name ≢ name) formats
formats_free formats name h k d below e =
    texts_differ name (get_or formats k d).name (none_found (λ (f : Format). is_text name f.name) formats h k d below)
    (sym e)

some_power : (n : ℕ) → 0 < 2 ^ n
some_power n =
    let least : 0 ≤ n = omega arith in
    let more : 2 ^ 0 ≤ 2 ^ n = pow_mono least in
    omega arith

no_masks : (width : ℕ) → AreMasks width 0 0 0
no_masks width = record {
  fixed_below = some_power width;
  ignored_below = some_power width;
  bits_in_mask = refl;
  apart =
      refl;
}

not_full : (n m : ℕ) → nat_le m n ≡ false → n + 1 ≤ m
not_full n m h = grind (arith, nat_tests)

-- the bits of a line
abbrev HasMasksOf : ℕ → Bits → Type 0
HasMasksOf width bits = AreMasks width bits.fixed_bits bits.fixed_mask bits.ignored

whole_masks : (width : ℕ) (digits : List ℕ) → length digits ≡ width → HasMasksOf width (bits_at_top width digits)
whole_masks width digits long = subst (HasMasksOf width) (sym (whole_at_top width digits long))
    (digit_masks width digits long)

none_or_whole : (width n : ℕ) → (not (n == 0) && not (n == width)) ≡ false → (n ≡ 0) ⊎ (n ≡ width)
none_or_whole width n h = by (n == 0) (n == width) refl refl h
  where
    by : (none whole : Bool) → (n == 0) ≡ none → (n == width) ≡ whole → (not none && not whole) ≡ false
        → (n ≡ 0) ⊎ (n ≡ width)
    by true whole e f h = inl (eqb-true n 0 e)
    by false true e f h = inr (eqb-true n width f)
    by false false e f h = absurd (cc)

line_masks : (width : ℕ) (digits : List ℕ) → is_partial width digits ≡ false
    → HasMasksOf width (bits_at_top width digits)
line_masks width digits h =
    ⊎_elim (λ (none : length digits ≡ 0). subst (HasMasksOf width) (sym (none_at_top width digits none))
    (no_masks width))
    (λ (long : length digits ≡ width). whole_masks width digits long) (none_or_whole width (length digits) h)

-- a new set has the arguments of its line
new_inside : (values : GivenValues) → All (λ v. has_member (map int_member values) v.0 ≡ true) values
new_inside [] k d below = absurd (omega arith)
new_inside (v ∷ vs) zero d below = ap (λ b. b || has_member (map int_member vs) v.0) ((text_decides v.0 v.0).1 refl)
new_inside (v ∷ vs) (suc k) d below = later (is_text (get_or vs k d).0 v.0)
    (has_member (map int_member vs) (get_or vs k d).0) (new_inside vs k d (omega arith))
  where
    later : (a b : Bool) → b ≡ true → (a || b) ≡ true
    later true b h = refl
    later false b h = h

-- the place of a format that a line names
named_within : (formats : List Format) (name : Option (List ℕ)) (n : ℕ) → named_place formats name ≡ Some n
    → n < length formats
named_within formats None n h = absurd (cc)
named_within formats (Some name) n h = (position-Some (λ (f : Format). is_text name f.name) formats n
    (new_format 0 name 0 []) h).0

-- no value is of no argument
no_arguments : (members : List Member) → AreArgumentsIn [] members
no_arguments members = record {
  inside = All-nil (λ v. has_member members v.0 ≡ true);
  differ =
      none_differ (λ (v w : List ℕ × FieldValue). v.0 ≢ w.0);
}

-- the sets and the formats after a line
record IsExtended (width : ℕ) (scope : Scope) (sets : List SetDef) (formats : List Format) : Type 0 where
  sets_sound : All IsSoundSet sets
  sets_differ : SetsDiffer sets
  formats_sound : All (IsSoundFormat width sets) formats
  formats_differ : FormatsDiffer formats
  keeps : (p : Pattern) → IsSoundOf width scope.sets scope.formats p → IsSoundOf width sets formats p
  keeps_set : (p : Pattern) → IsSoundOf width scope.sets scope.formats p
      → set_number formats p ≡ set_number scope.formats p
  few_sets : length sets ≤ length scope.sets + 1
  few_formats : length formats ≤ length scope.formats + 1

-- patterns of a name still have one set
one_set_kept : (width : ℕ) (scope : Scope) (sets : List SetDef) (formats : List Format)
    → IsExtended width scope sets formats → All (IsSoundOf width scope.sets scope.formats) scope.patterns
    → AllPairs (HaveOneSet scope.formats) scope.patterns → AllPairs (HaveOneSet formats) scope.patterns
one_set_kept width scope sets formats more sound one i j d before below e =
    more.keeps_set (get_or scope.patterns i d) (sound i d (omega arith)) ∙ one i j d before below e
    ∙ sym (more.keeps_set (get_or scope.patterns j d) (sound j d below))

with_more : (width limit left : ℕ) (scope : Scope) (sets : List SetDef) (formats : List Format)
    → IsSoundScope width limit (left + 1) scope → IsExtended width scope sets formats
    → IsSoundScope width limit left (record scope { sets = sets; formats = formats })
with_more width limit left scope sets formats h more = record {
  few_sets = let few : length scope.sets + (left + 1) ≤ limit = h.few_sets in
      let one : length sets ≤ length scope.sets + 1 = more.few_sets in omega arith;
  few_formats = let few : length scope.formats + (left + 1) ≤ limit = h.few_formats in
      let one : length formats ≤ length scope.formats + 1 = more.few_formats in omega arith;
  fields = h.fields;
  sets = more.sets_sound;
  sets_differ = more.sets_differ;
  formats = more.formats_sound;
  formats_differ = more.formats_differ;
  patterns = All-weaker (IsSoundOf width scope.sets scope.formats)
      (IsSoundOf width sets formats) more.keeps scope.patterns h.patterns;
  one_set = one_set_kept width scope sets formats more h.patterns h.one_set;
  few = h.few;
  numbers = h.numbers;
  nested = h.nested;
  depth = h.depth;
}

-- and with its pattern, whose set is that of the earlier patterns of its name
with_pattern : (width limit left : ℕ) (scope : Scope) (sets : List SetDef) (formats : List Format) (p : Pattern)
    → IsSoundScope width limit (left + 1) scope → IsExtended width scope sets formats
    → IsSoundOf width sets formats p → has_other_set scope.formats scope.patterns (set_number formats p) p.name ≡ false
    → nat_le MOST_PATTERNS (length scope.patterns) ≡ false
    → IsSoundScope width limit left (record scope {
      sets = sets;
      formats = formats;
      patterns =
          scope.patterns ++ p ∷ [];
      marks = scope.marks ++ pattern_mark (length scope.patterns) ∷ [];
    })
with_pattern width limit left scope sets formats p h more sound same room =
    let rest = with_more width limit left scope sets formats h more in
    let count : length (scope.patterns ++ p ∷ []) ≡ length scope.patterns + 1 = length_push scope.patterns p in
    let below : length scope.patterns + 1 ≤ MOST_PATTERNS = not_full (length scope.patterns) MOST_PATTERNS room in
    record {
      few_sets = rest.few_sets;
      few_formats = rest.few_formats;
      fields = h.fields;
      sets = rest.sets;
      sets_differ = rest.sets_differ;
      formats = rest.formats;
      formats_differ = rest.formats_differ;
      patterns = All-push (IsSoundOf width sets formats) scope.patterns p rest.patterns sound;
      one_set = one_set_more formats scope.patterns p (set_number formats p) refl rest.one_set
          (λ k d below e. more.keeps_set (get_or scope.patterns k d) (h.patterns k d below)
          ∙ same_set scope.formats scope.patterns (set_number formats p) p.name same k d below e);
      few = omega arith;
      numbers = one_marked scope.marks (length scope.patterns) h.numbers ∙ ap (numbers_from 0) (sym count);
      nested = nested_more 0 scope.marks (pattern_mark (length scope.patterns) ∷ []) h.nested tt;
      depth = depth_more 0 scope.marks (pattern_mark (length scope.patterns) ∷ []) ∙ h.depth;
    }

module _ (options : Options) (limit : ℕ) (decode : IsOptionName options.decode) (small : limit < 2 ^ 64) where
  set_name_sound : (sets : List SetDef) (left : ℕ) → length sets + left ≤ limit
      → IsName (new_set_name options.decode (length sets))
  set_name_sound sets left few = numbered_is_name options.decode [] (length sets) decode refl (omega arith)
      (omega arith)

  format_name_sound : (formats : List Format) (left : ℕ) → length formats + left ≤ limit
      → IsName (new_format_name options.decode (length formats))
  format_name_sound formats left few = numbered_is_name options.decode (codes "_Fmt_") (length formats) decode refl
      (omega arith) (omega arith)

  -- what a line gives
  abbrev line_of : Scope → List (List ℕ) → Gathered
  line_of scope tokens = gathered (width_bits options.width) scope.fields tokens

  -- the set that a line names or has by inference
  set_of_line : (left : ℕ) (scope : Scope) (g : Gathered) (AreSuch : List Member → Type 0)
      → IsSoundScope (width_bits options.width) limit (left + 1) scope
      → AreGiven (width_bits options.width) g.values
      → ((s : SetDef) → slice_get scope.sets (set_chosen scope.sets g.values g.set) ≡ Some s → IsSoundSet s
      → AreSuch s.members) → AreSuch (map int_member g.values)
      → new_name_row (is_set_name_taken scope)
      (name_where (set_chosen scope.sets g.values g.set == length scope.sets)
      (new_set_name options.decode (length scope.sets))) ≡ []
      → IsSetChosen (width_bits options.width) scope.sets
      (sets_with scope.sets g.values (name_where (set_chosen scope.sets g.values g.set == length scope.sets)
      (new_set_name options.decode (length scope.sets))))
      (set_chosen scope.sets g.values g.set) AreSuch
  set_of_line left scope g AreSuch h given old fresh free =
      let n : ℕ = set_chosen scope.sets g.values g.set in
      let is_new : Bool = n == length scope.sets in
      let name : List ℕ = new_set_name options.decode (length scope.sets) in
      choose_set (width_bits options.width) scope.sets n g.values name is_new AreSuch
      (set_within scope.sets g.values g.set) refl given old fresh h.sets h.sets_differ
      (λ e. (
        set_name_sound scope.sets (left + 1) h.few_sets,
        names_free scope.sets (pattern_names scope.patterns) name
            (new_is_free (is_set_name_taken scope) is_new name free e),
      ))

  format_of_line : (left : ℕ) (scope : Scope) (g : Gathered) (sets : List SetDef) (AreSuch : List Member → Type 0)
      → IsSoundScope (width_bits options.width) limit (left + 1) scope
      → AreGiven (width_bits options.width) g.values
      → ((ms : List Member) → AreSuch ms → All (λ v. has_member ms v.0 ≡ true) g.values)
      → IsSetChosen (width_bits options.width) scope.sets sets (set_chosen scope.sets g.values g.set) AreSuch
      → new_name_row (is_format scope.formats) (inferred_choice options scope.sets scope.formats g).new_format ≡ []
      → IsFormatChosen (width_bits options.width) sets scope.formats
      (formats_with (width_bits options.width) scope.formats (inferred_choice options scope.sets scope.formats g).set
      (fields_of g.values) (inferred_choice options scope.sets scope.formats g).new_format)
      (inferred_choice options scope.sets scope.formats g).set
      (inferred_choice options scope.sets scope.formats g).format g.values
  format_of_line left scope g sets AreSuch h given inside set free =
      let width : ℕ = width_bits options.width in
      let n : ℕ = set_chosen scope.sets g.values g.set in
      let is_new : Bool = matching_format width n g.values scope.formats == length scope.formats in
      let name : List ℕ = new_format_name options.decode (length scope.formats) in
      let is_field : List ℕ × FieldValue → Bool = λ v. not (is_constant v.1) in
      choose_format width sets scope.formats n g.values name is_new refl given
      (All-weaker (IsSoundFormat width scope.sets) (IsSoundFormat width sets) set.keeps_format scope.formats h.formats)
      h.formats_differ
      (λ e. (
        record {
          named = format_name_sound scope.formats (left + 1) h.few_formats;
          masks = no_masks width;
          set = set.number;
          values = All-filter is_field (λ v. IsSoundValue width v.1) g.values given.sound;
          arguments = record {
            inside = All-filter is_field (λ v. has_member (members_at sets n) v.0 ≡ true) g.values
                (inside (members_at sets n) set.arguments);
            differ = AllPairs-filter (λ v w. v.0 ≢ w.0) is_field g.values given.differ;
          };
        },
        formats_free scope.formats name (new_is_free (is_format scope.formats) is_new name free e),
      ))

  -- what the rules of a pattern's whole line say of one that names this format, or none
  record AreRowsKept (scope : Scope) (choice : Choice) (base : Option Format) (name : List ℕ)
      (g : Gathered) : Type 0 where
    long : length g.digits ≡ width_bits options.width
    arguments : argument_rows (base_values base) g.values (slice_get scope.sets choice.set) ≡ []
    new_set : new_name_row (is_set_name_taken scope) choice.new_set ≡ []
    new_format : new_name_row (is_format scope.formats) choice.new_format ≡ []
    same : has_other_set scope.formats scope.patterns choice.set name ≡ false
    apart : let bits = bits_with_base (bits_at_top (width_bits options.width) g.digits) base in
        bit_and bits.fixed_mask bits.ignored ≡ 0

  same_zero : (n : ℕ) → not (n == 0) ≡ false → n ≡ 0
  same_zero n h = same_number n 0 h

  rows_kept : (scope : Scope) (choice : Choice) (base : Option Format) (name : List ℕ) (g : Gathered)
      → whole_rows (width_bits options.width) scope choice base name g ≡ [] → AreRowsKept scope choice base name g
  rows_kept scope choice base name g none =
      let width : ℕ = width_bits options.width in
      let bits : Bits = bits_with_base (bits_at_top width g.digits) base in
      let fields : ℕ = fields_with_base g.values base in
      let counted = both_empty (where_broken (not (length g.digits == width)) (rule.G9, number (length g.digits))) _
      none in
      let both = both_empty (where_broken (is_some g.format && is_some g.set) (rule.G13, nothing)) _ counted.1 in
      let based = both_empty (base_rows (bits_at_top width g.digits) base) _ both.1 in
      let arguments = both_empty (argument_rows (base_values base) g.values (slice_get scope.sets choice.set)) _ based.1
      in
      let names = both_empty (name_rows scope choice name) (mask_rows width base g) arguments.1 in
      let halves = both_empty (new_name_rows scope choice) (own_name_rows scope choice.set name) names.0 in
      let new = both_empty (new_name_row (is_set_name_taken scope) choice.new_set)
      (new_name_row (is_format scope.formats) choice.new_format) halves.0 in
      let own = both_empty (where_broken (names_other_set scope.sets choice.set name) (rule.G26, named name)) _ halves.1
      in
      let masks = both_empty (meeting_rows fields bits) (left_rows width fields bits) names.1 in
      let fixed = both_empty (shared_bits_row rule.G18 (bit_and fields bits.fixed_mask)) _ masks.0 in
      let ignored = both_empty (shared_bits_row rule.G19 (bit_and fields bits.ignored))
      (shared_bits_row rule.G20 (bit_and bits.fixed_mask bits.ignored)) fixed.1 in
      record {
        long = same_number (length g.digits) width (not_broken _ _ counted.0);
        arguments = arguments.0;
        new_set = new.0;
        new_format = new.1;
        same = not_broken _ _ own.1;
        apart = same_zero (bit_and bits.fixed_mask bits.ignored) (not_broken _ _ ignored.1);
      }

  -- a pattern that names no format
  inferred_step : (left : ℕ) (scope : Scope) (position : Position) (name : List ℕ) (g : Gathered)
      → IsSoundScope (width_bits options.width) limit (left + 1) scope
      → IsName name → nat_le MOST_PATTERNS (length scope.patterns) ≡ false
      → AreGiven (width_bits options.width) g.values
      → AreRowsKept scope (inferred_choice options scope.sets scope.formats g) None name g
      → let choice = inferred_choice options scope.sets scope.formats g in
      IsSoundScope (width_bits options.width) limit left
      (scope_with_pattern (width_bits options.width) scope choice g.values
      (pattern_of (width_bits options.width) choice None position name g))
  inferred_step left scope position name g h is_named room given rows =
      let width : ℕ = width_bits options.width in
      let choice : Choice = inferred_choice options scope.sets scope.formats g in
      let pattern : Pattern = pattern_of width choice None position name g in
      let AreSuch : List Member → Type 0 = λ ms. IsPermutation (value_names g.values) (member_names ms)
      × All (λ v. has_member ms v.0 ≡ true) g.values in
      let sets : List SetDef = sets_with scope.sets g.values choice.new_set in
      let formats : List Format = formats_with width scope.formats choice.set (fields_of g.values) choice.new_format in
      let set : IsSetChosen width scope.sets sets choice.set AreSuch = set_of_line left scope g AreSuch h given
      (λ s there sound.
      let kept = ap (argument_rows [] g.values) (sym there) ∙ rows.arguments in (
        arguments_are_given [] g.values s (no_arguments s.members) given.differ sound kept,
        inside_by g.values s.members (both_empty (outside_rows g.values s.members) _ kept).0,
      ))
      (new_arguments_are_given g.values, new_inside g.values) rows.new_set in
      let format : IsFormatChosen width sets scope.formats formats choice.set choice.format g.values =
      format_of_line left scope g sets AreSuch h given (λ ms such. such.1) set rows.new_format in
      let number : set_number formats pattern ≡ choice.set = format.set_of in
      let more : IsExtended width scope sets formats = record {
        sets_sound = set.sound;
        sets_differ = set.differ;
        formats_sound = format.sound;
        formats_differ = format.differ;
        keeps = λ p k. format.keeps p (set.keeps scope.formats p k);
        keeps_set = λ p k. format.keeps_set p (set.keeps scope.formats p k);
        few_sets = set.few;
        few_formats = format.few;
      } in
      let sound : IsSoundOf width sets formats pattern = record {
        named = is_named;
        masks = whole_masks width g.digits rows.long;
        bits = rows.long;
        format = format.number;
        set = subst (λ n. n < length sets) (sym number) set.number;
        values = All-filter (λ v. is_constant v.1) (λ v. IsSoundValue width v.1) g.values given.sound;
        arguments = subst (λ n. IsPermutation (given_names formats pattern) (member_names (members_at sets n)))
            (sym number)
            (IsPermutation-trans (given_names formats pattern) (value_names g.values)
            (member_names (members_at sets choice.set)) format.names set.arguments.0);
      } in
      with_pattern width limit left scope sets formats pattern h more sound
      (ap (λ n. has_other_set scope.formats scope.patterns n name) number ∙ rows.same) room

  -- a pattern that names the format of this number
  named_step : (left : ℕ) (scope : Scope) (position : Position) (name : List ℕ) (g : Gathered) (n : ℕ) (f : Format)
      → IsSoundScope (width_bits options.width) limit (left + 1) scope
      → IsName name → nat_le MOST_PATTERNS (length scope.patterns) ≡ false
      → AreGiven (width_bits options.width) g.values
      → n < length scope.formats → slice_get scope.formats n ≡ Some f
      → AreRowsKept scope (named_choice scope.formats n) (Some f) name g
      → let choice = named_choice scope.formats n in IsSoundScope (width_bits options.width) limit left
      (scope_with_pattern (width_bits options.width) scope choice g.values
      (pattern_of (width_bits options.width) choice (Some f) position name g))
  named_step left scope position name g n f h is_named room given below there rows =
      let width : ℕ = width_bits options.width in
      let choice : Choice = named_choice scope.formats n in
      let pattern : Pattern = pattern_of width choice (Some f) position name g in
      let sound_format : IsSoundFormat width scope.sets f =
      subst (IsSoundFormat width scope.sets) (get_or_from_slice_get scope.formats n f f there)
      (h.formats n f below) in
      let number : set_number scope.formats pattern ≡ f.set = set_of_some scope.formats n f there in
      let d : SetDef = new_set name [] in
      let s : SetDef = get_or scope.sets f.set d in
      let members : members_at scope.sets f.set ≡ s.members =
      get_or-map (λ (t : SetDef). t.members) scope.sets f.set d [] sound_format.set in
      let listed : slice_get scope.sets choice.set ≡ Some s =
      ap (slice_get scope.sets) number ∙ slice_get-get_or scope.sets f.set d sound_format.set in
      let values : values_at scope.formats n ≡ f.values =
      get_or-map (λ (x : Format). x.values) scope.formats n f [] below
      ∙ ap (λ (x : Format). x.values) (get_or_from_slice_get scope.formats n f f there) in
      let arguments : IsPermutation (value_names (f.values ++ g.values)) (member_names s.members) =
      arguments_are_given f.values g.values s (subst (AreArgumentsIn f.values) members sound_format.arguments)
      given.differ (h.sets f.set d sound_format.set)
      (ap (argument_rows f.values g.values) (sym listed) ∙ rows.arguments) in
      let more : IsExtended width scope scope.sets scope.formats = record {
        sets_sound = h.sets;
        sets_differ = h.sets_differ;
        formats_sound = h.formats;
        formats_differ = h.formats_differ;
        keeps = λ p k. k;
        keeps_set = λ p k. refl;
        few_sets = omega arith;
        few_formats = omega arith;
      } in
      let line : Bits = bits_at_top width g.digits in
      let sound : IsSoundOf width scope.sets scope.formats pattern = record {
        named = is_named;
        masks = joined_masks width line.fixed_bits line.fixed_mask line.ignored f.fixed_bits f.fixed_mask f.ignored
            (whole_masks width g.digits rows.long) sound_format.masks rows.apart;
        bits = rows.long;
        format = below;
        set = subst (λ m. m < length scope.sets) (sym number) sound_format.set;
        values = given.sound;
        arguments = subst (λ m. IsPermutation (given_names scope.formats pattern)
            (member_names (members_at scope.sets m))) (sym number)
            (subst (λ vs. IsPermutation (value_names (vs ++ g.values)) (member_names (members_at scope.sets f.set)))
            (sym values)
            (subst (λ ms. IsPermutation (value_names (f.values ++ g.values)) (member_names ms))
            (sym members) arguments));
      } in
      with_pattern width limit left scope scope.sets scope.formats pattern h more sound rows.same room

  pattern_by : (left : ℕ) (scope : Scope) (position : Position) (name : List ℕ) (g : Gathered) (place : Option ℕ)
      → IsSoundScope (width_bits options.width) limit (left + 1) scope
      → IsName name → nat_le MOST_PATTERNS (length scope.patterns) ≡ false
      → AreGiven (width_bits options.width) g.values → named_place scope.formats g.format ≡ place
      → whole_rows (width_bits options.width) scope (choice_by options scope.sets scope.formats g place)
      (format_in scope.formats place) name g ≡ []
      → let choice = choice_by options scope.sets scope.formats g place in
      IsSoundScope (width_bits options.width) limit left
      (scope_with_pattern (width_bits options.width) scope choice g.values
      (pattern_of (width_bits options.width) choice (format_in scope.formats place) position name g))
  pattern_by left scope position name g None h is_named room given is none =
      inferred_step left scope position name g h is_named room given
      (rows_kept scope (inferred_choice options scope.sets scope.formats g) None name g none)
  pattern_by left scope position name g (Some n) h is_named room given is none =
      let width : ℕ = width_bits options.width in
      let choice : Choice = named_choice scope.formats n in
      let below : n < length scope.formats = named_within scope.formats g.format n is in
      let f : Format = get_or scope.formats n (new_format width name 0 []) in
      let there : slice_get scope.formats n ≡ Some f =
      slice_get-get_or scope.formats n (new_format width name 0 []) below in
      subst (λ base. IsSoundScope width limit left
      (scope_with_pattern width scope choice g.values (pattern_of width choice base position name g))) (sym there)
      (named_step left scope position name g n f h is_named room given below there
      (rows_kept scope choice (Some f) name g (ap (λ base. whole_rows width scope choice base name g) (sym there)
      ∙ none)))

  pattern_step : (left : ℕ) (scope : Scope) (position : Position) (name : List ℕ) (tokens : List (List ℕ))
      → IsSoundScope (width_bits options.width) limit (left + 1) scope
      → IsName name → nat_le MOST_PATTERNS (length scope.patterns) ≡ false
      → pattern_faults options scope name tokens ≡ []
      → IsSoundScope (width_bits options.width) limit left (after_pattern options scope position name tokens)
  pattern_step left scope position name tokens h is_named room none =
      let width : ℕ = width_bits options.width in
      let g : Gathered = line_of scope tokens in
      let rows = both_empty (element_faults false width scope nothing_given tokens)
      (whole_rows width scope (choice_of options scope.sets scope.formats g)
      (named_format scope.formats g.format) name g) none in
      pattern_by left scope position name g (named_place scope.formats g.format) h is_named room
      (line_given false width scope h.fields tokens rows.0) refl rows.1

  format_step : (left : ℕ) (scope : Scope) (name : List ℕ) (tokens : List (List ℕ))
      → IsSoundScope (width_bits options.width) limit (left + 1) scope
      → IsName name → format_faults options scope name tokens ≡ []
      → IsSoundScope (width_bits options.width) limit left (after_format options scope name tokens)
  format_step left scope name tokens h is_named none =
      let width : ℕ = width_bits options.width in
      let g : Gathered = line_of scope tokens in
      let choice : Choice = format_choice options scope.sets scope.formats g in
      let bits : Bits = bits_at_top width g.digits in
      let f : Format = format_with name choice.set bits g.values in
      let rows = both_empty (element_faults true width scope nothing_given tokens)
      (whole_format_rows width scope choice name g) none in
      let given : AreGiven width g.values = line_given true width scope h.fields tokens rows.0 in
      let counted = both_empty (where_broken (is_partial width g.digits) (rule.G9, number (length g.digits))) _ rows.1
      in
      let arguments = both_empty (format_argument_rows g.values (slice_get scope.sets choice.set)) _ counted.1 in
      let fresh = both_empty (where_broken (is_format scope.formats name) (rule.G12, named name)) _ arguments.1 in
      let new_set = both_empty (new_name_row (is_set_name_taken scope) choice.new_set) _ fresh.1 in
      let sets : List SetDef = sets_with scope.sets g.values choice.new_set in
      let set : IsSetChosen width scope.sets sets choice.set (AreArgumentsIn g.values) =
      set_of_line left scope g (AreArgumentsIn g.values) h given
      (λ s there sound. record {
        inside = inside_by g.values s.members (ap (format_argument_rows g.values) (sym there)
            ∙ arguments.0);
        differ = given.differ;
      })
      (record { inside = new_inside g.values; differ = given.differ }) new_set.0 in
      let sound : IsSoundFormat width sets f = record {
        named = is_named;
        masks = line_masks width g.digits (not_broken _ _ counted.0);
        set = set.number;
        values = given.sound;
        arguments = set.arguments;
      } in
      let count : length (scope.formats ++ f ∷ []) ≡ length scope.formats + 1 = length_push scope.formats f in
      with_more width limit left scope sets (scope.formats ++ f ∷ []) h (record {
        sets_sound = set.sound;
        sets_differ = set.differ;
        formats_sound = All-push (IsSoundFormat width sets) scope.formats f
            (All-weaker (IsSoundFormat width scope.sets)
            (IsSoundFormat width sets) set.keeps_format scope.formats h.formats) sound;
        formats_differ = all_pairs_push (λ (a b : Format). a.name ≢ b.name) scope.formats f h.formats_differ
            (formats_free scope.formats name (not_broken _ _ fresh.0));
        keeps = λ p k. kept_by_formats width sets scope.formats (f ∷ []) p (set.keeps scope.formats p k);
        keeps_set = λ p k. set_number_kept scope.formats (f ∷ []) p.format k.format;
        few_sets = set.few;
        few_formats = omega arith;
      })

  set_step : (left : ℕ) (scope : Scope) (tokens : List (List ℕ))
      → IsSoundScope (width_bits options.width) limit (left + 1) scope
      → IsTrue (begins_set tokens) → set_line_faults scope.sets (pattern_names scope.patterns) tokens ≡ []
      → IsSoundScope (width_bits options.width) limit left (record scope { sets = scope.sets ++ line_set tokens ∷ [] })
  set_step left scope tokens h begins none =
      let width : ℕ = width_bits options.width in
      let s : SetDef = line_set tokens in
      let count : length (scope.sets ++ s ∷ []) ≡ length scope.sets + 1 = length_push scope.sets s in
      with_more width limit left scope (scope.sets ++ s ∷ []) scope.formats h (record {
        sets_sound = All-push IsSoundSet scope.sets s h.sets
            (unbroken_set_is_sound scope.sets (pattern_names scope.patterns) tokens begins none);
        sets_differ = names_differ_more scope.sets s h.sets_differ
            (unbroken_set_is_new scope.sets (pattern_names scope.patterns) tokens begins none);
        formats_sound = All-weaker (IsSoundFormat width scope.sets) (IsSoundFormat width (scope.sets ++ s ∷ []))
            (format_kept width scope.sets (s ∷ [])) scope.formats h.formats;
        formats_differ = h.formats_differ;
        keeps = λ p k. kept_by_sets width scope.sets (s ∷ []) scope.formats p k;
        keeps_set = λ p k. refl;
        few_sets = omega arith;
        few_formats = omega arith;
      })

  not_too_many : (scope : Scope) (indent : ℕ) (first name : List ℕ) (rest : List (List ℕ))
      → structure_rows scope indent first rest (head.Pattern name) ≡ []
      → nat_le MOST_PATTERNS (length scope.patterns) ≡ false
  not_too_many scope indent first name rest h =
      not_broken (nat_le MOST_PATTERNS (length scope.patterns)) (rule.L9, token first)
      (both_empty (indentation_row (length scope.groups) indent) (pattern_row (length scope.patterns) first) h).1

  not_too_deep : (scope : Scope) (indent : ℕ) (first : List ℕ) (rest : List (List ℕ)) (kind : Kind)
      → structure_rows scope indent first rest (head.Opens kind) ≡ [] → nat_le MOST_DEPTH (length scope.groups) ≡ false
  not_too_deep scope indent first rest kind h =
      not_broken (nat_le MOST_DEPTH (length scope.groups)) (rule.L8, token first)
      (both_empty (extra_rows rule.L5 rest) _ (both_empty (indentation_row (length scope.groups) indent)
      (opening_rows (length scope.groups) first rest) h).1).1

  -- a line that opens or closes a group
  group_step : (left : ℕ) (scope : Scope) (groups : List Opening) (mark : Mark)
      → IsSoundScope (width_bits options.width) limit (left + 1) scope
      → marked (mark ∷ []) ≡ [] → AreNested (length scope.groups) (mark ∷ [])
      → depth_after (length scope.groups) (mark ∷ []) ≡ length groups
      → IsSoundScope (width_bits options.width) limit left
      (record scope { groups = groups; marks = scope.marks ++ mark ∷ [] })
  group_step left scope groups mark h none nested depth =
      let less = fewer_left (width_bits options.width) limit (left + 1) left scope (omega arith) h in
      record {
        few_sets = less.few_sets;
        few_formats = less.few_formats;
        fields = h.fields;
        sets = h.sets;
        sets_differ = h.sets_differ;
        formats = h.formats;
        formats_differ = h.formats_differ;
        patterns = h.patterns;
        one_set = h.one_set;
        few = h.few;
        numbers = marked_both scope.marks (mark ∷ []) ∙ ap (λ ns. marked scope.marks ++ ns) none
            ∙ append-nil (marked scope.marks) ∙ h.numbers;
        nested = nested_more 0 scope.marks (mark ∷ []) h.nested
            (subst (λ n. AreNested n (mark ∷ [])) (sym h.depth) nested);
        depth = depth_more 0 scope.marks (mark ∷ []) ∙ ap (λ n. depth_after n (mark ∷ [])) h.depth ∙ depth;
      }

  open_step : (left : ℕ) (scope : Scope) (o : Opening) → IsSoundScope (width_bits options.width) limit (left + 1) scope
      → nat_le MOST_DEPTH (length scope.groups) ≡ false
      → IsSoundScope (width_bits options.width) limit left (after_opening scope o)
  open_step left scope o h low =
      let below : length scope.groups + 1 ≤ MOST_DEPTH = not_full (length scope.groups) MOST_DEPTH low in
      group_step left scope (scope.groups ++ o ∷ []) (opens o.kind o.file o.line) h refl (omega arith, tt)
      (sym (length_push scope.groups o))

  close_step : (left : ℕ) (scope : Scope) (kind : Kind) → IsSoundScope (width_bits options.width) limit (left + 1) scope
      → IsSoundScope (width_bits options.width) limit left (after_closing scope kind)
  close_step left scope kind h =
      let fewer : length scope.groups - 1 ≤ length scope.groups = omega arith in
      group_step left scope (take (length scope.groups - 1) scope.groups) (closes kind) h refl tt
      (sym (length-take-le (length scope.groups - 1) scope.groups fewer))

  head_step : (left : ℕ) (scope : Scope) (position : Position) (indent : ℕ) (first : List ℕ) (rest : List (List ℕ))
      (hd : Head) → head_of first ≡ hd → IsSoundScope (width_bits options.width) limit (left + 1) scope
      → head_faults options scope indent first rest hd ≡ []
      → IsSoundScope (width_bits options.width) limit left (after_head options scope position first rest hd)
  head_step left scope position indent first rest (head.Opens kind) e h none =
      open_step left scope (record { kind = kind; file = position.file; line = position.line }) h
      (not_too_deep scope indent first rest kind
      (both_empty (structure_rows scope indent first rest (head.Opens kind)) _ none).0)
  head_step left scope position indent first rest (head.Closes kind) e h none = close_step left scope kind h
  head_step left scope position indent first rest (head.Field name) e h none =
      let less = fewer_left (width_bits options.width) limit (left + 1) left scope (omega arith) h in
      record {
        few_sets = less.few_sets;
        few_formats = less.few_formats;
        fields =
            All-push (λ (f : List ℕ × FieldDef). IsKeptField (width_bits options.width) f.1) scope.fields
            (line_field (first ∷ rest)) h.fields
            (line_is_kept (width_bits options.width) scope.fields (first ∷ rest) (field_begins first name e)
            (both_empty (structure_rows scope indent first rest (head.Field name)) _ none).1);
        sets = h.sets;
        sets_differ = h.sets_differ;
        formats = h.formats;
        formats_differ = h.formats_differ;
        patterns = h.patterns;
        one_set = h.one_set;
        few = h.few;
        numbers = h.numbers;
        nested = h.nested;
        depth = h.depth;
      }
  head_step left scope position indent first rest (head.Set name) e h none =
      set_step left scope (first ∷ rest) h (set_begins first name e)
      (both_empty (structure_rows scope indent first rest (head.Set name)) _ none).1
  head_step left scope position indent first rest (head.Format name) e h none =
      let parts = both_empty (structure_rows scope indent first rest (head.Format name))
      (format_faults options scope name rest) none in
      format_step left scope name rest h (format_is_named first name e) parts.1
  head_step left scope position indent first rest (head.Pattern name) e h none =
      let parts = both_empty (structure_rows scope indent first rest (head.Pattern name))
      (pattern_faults options scope name rest) none in
      pattern_step left scope position name rest h (pattern_is_named first name e)
      (not_too_many scope indent first name rest parts.0) parts.1
  head_step left scope position indent first rest head.None e h none =
      fewer_left (width_bits options.width) limit (left + 1) left scope (omega arith) h

  tokens_step : (left : ℕ) (scope : Scope) (position : Position) (indent : ℕ) (tokens : List (List ℕ))
      → IsSoundScope (width_bits options.width) limit (left + 1) scope
      → faults_in options scope indent tokens ≡ []
      → IsSoundScope (width_bits options.width) limit left (after_tokens options scope position tokens)
  tokens_step left scope position indent [] h none =
      fewer_left (width_bits options.width) limit (left + 1) left scope (omega arith) h
  tokens_step left scope position indent (first ∷ rest) h none =
      head_step left scope position indent first rest (head_of first) refl h none

  lines_step : (scope : Scope) (lines : List FileLine)
      → IsSoundScope (width_bits options.width) limit (length lines) scope
      → faults_from options scope lines ≡ [] → IsSoundScope (width_bits options.width) limit 0
      (after_lines options scope lines)
  lines_step scope [] h none = h
  lines_step scope (l ∷ ls) h none =
      let parts = none_on l (faults_of_line options scope l.line)
      (faults_from options (after_line options scope l) ls) none in
      let here = fewer_left (width_bits options.width) limit (length (l ∷ ls)) (length ls + 1) scope (omega arith) h in
      lines_step (after_line options scope l) ls
      (tokens_step (length ls) scope (line_position l) l.line.indent l.line.tokens here parts.0) parts.1

  pub lines_sound : (lines : List FileLine) → length lines ≤ limit → faults_from options nothing_defined lines ≡ []
      → IsSoundScope (width_bits options.width) limit 0 (after_lines options nothing_defined lines)
  lines_sound lines few none =
      lines_step nothing_defined lines (fewer_left (width_bits options.width) limit limit
      (length lines) nothing_defined few (nothing_sound (width_bits options.width) limit)) none
