-- Sets, formats and patterns that lines which break no rule add.
use Rattle.std.proofs.Common.{◌≡◌, ◌≢◌, ℕ, ◌+◌, ◌<◌, ◌≤◌, ◌==◌, ◌&&◌, Bool, true, false, List, [], ◌∷◌, ◌++◌, length, get_or, map, refl, ap, ◌∙◌, sym, subst, arith, length-append}
use Rattle.std.specs.Prelude.{not, nat_lt, Option, Some, None, slice_get, unwrap_or, if◌then◌else◌}
use Rattle.std.specs.List.{All, AllPairs, position_or_len}
use Rattle.std.specs.List.Sorted.{IsPermutation}
use Rattle.std.proofs.lemmas.Bool.{and_parts, eqb-true}
use Rattle.std.proofs.lemmas.Bool.Decides.{nat_tests}
use Rattle.std.proofs.lemmas.List.{get_or-map, get_or_append_left, get_or_push, length-map, length_push, map-append}
use Rattle.std.proofs.lemmas.Option.{slice_get-get_or}
use Rattle.std.proofs.lemmas.List.Elements.{All-push}
use Rattle.std.proofs.lemmas.List.Quantifiers.{all_pairs_push}
use Rattle.std.proofs.lemmas.List.Sums.{passes_at_first, prefix_len-le-length}
use Rattle.dt_values.specs.Names.{IsName}
use Rattle.dt_values.specs.Types.{is_text}
use Rattle.dt_values.specs.declared.ctype.Member.{Member}
use Rattle.dt_fields.specs.SoundSets.{IsSoundSet}
use Rattle.dt_values.specs.declared.set.SetDef.{SetDef}
use Rattle.dt_model.specs.declared.format.Format.{Format}
use Rattle.dt_model.specs.declared.pattern.Pattern.{Pattern}
use Rattle.dt_patterns.specs.Inference.{constants_of, fields_of, fits_pattern, formats_with, has_exactly, has_fields_of, int_member, matching_format, name_where, new_format, new_set, set_chosen, sets_with}
use Rattle.dt_model.specs.View.{set_of_format, set_number}
use Rattle.dt_patterns.specs.LineNames.{has_other_set}
use Rattle.dt_model.specs.Patterns.{GivenValues}
use Rattle.dt_model.specs.Sound.{AreMasks, AreSoundValues, FormatHasMasks, GivesArguments, HaveOneSet, argument_names, given_names}
use Rattle.dt_patterns.proofs.Arguments.{AreArgumentsIn, member_names, new_set_is_sound, value_names}
use Rattle.dt_patterns.proofs.LineValues.{AreGiven}
use Rattle.dt_fields.proofs.NewNames.{none_passes}
use Rattle.dt_patterns.proofs.TakenFields.{new_with_constants, taken_with_constants}
use Rattle.dt_patterns.proofs.Unbroken.{other_half, text_same}

-- the arguments of the set of this number
abbrev pub members_at : List SetDef → ℕ → List Member
members_at sets n = get_or (map (λ s. s.members) sets) n []

pub record IsSoundFormat (width : ℕ) (sets : List SetDef) (f : Format) : Type 0 where
  pub named : IsName f.name
  pub masks : FormatHasMasks width f
  pub set : f.set < length sets
  pub values : AreSoundValues width f.values
  pub arguments : AreArgumentsIn f.values (members_at sets f.set)

-- a pattern with a format of these, which has a set of these and gives its arguments values
pub record IsSoundOf (width : ℕ) (sets : List SetDef) (formats : List Format) (p : Pattern) : Type 0 where
  pub named : IsName p.name
  pub masks : AreMasks width p.fixed_bits p.fixed_mask p.ignored
  pub bits : p.bits ≡ width
  pub format : p.format < length formats
  pub set : set_number formats p < length sets
  pub values : AreSoundValues width p.values
  pub arguments : GivesArguments sets formats p

abbrev pub SetsDiffer : List SetDef → Type 0
SetsDiffer sets = AllPairs (λ s t. s.name ≢ t.name) sets

abbrev pub FormatsDiffer : List Format → Type 0
FormatsDiffer formats = AllPairs (λ f g. f.name ≢ g.name) formats

pub members_kept : (sets more : List SetDef) (n : ℕ) → n < length sets → members_at (sets ++ more) n ≡ members_at sets n
members_kept sets more n h =
    ap (λ ms. get_or ms n []) (map-append (λ (s : SetDef). s.members) sets more)
    ∙ get_or_append_left (map (λ (s : SetDef). s.members) sets) (map (λ (s : SetDef). s.members) more) [] n
    (omega (arith, length-map sets (λ (s : SetDef). s.members)))

pub format_kept : (width : ℕ) (sets more : List SetDef) (f : Format) → IsSoundFormat width sets f
    → IsSoundFormat width (sets ++ more) f
format_kept width sets more f h = record {
  named = h.named;
  masks = h.masks;
  set = let below : f.set < length sets = h.set in omega (arith, length-append sets more);
  values = h.values;
  arguments = subst (AreArgumentsIn f.values) (sym (members_kept sets more f.set h.set)) h.arguments;
}

pub set_number_kept : (formats more : List Format) (n : ℕ) → n < length formats
    → set_of_format (formats ++ more) n ≡ set_of_format formats n
set_number_kept formats more n h =
    ap (λ ms. get_or ms n 0) (map-append (λ (f : Format). f.set) formats more)
    ∙ get_or_append_left (map (λ (f : Format). f.set) formats) (map (λ (f : Format). f.set) more) 0 n
    (omega (arith, length-map formats (λ (f : Format). f.set)))

-- what a format of this number gives
abbrev pub values_at : List Format → ℕ → GivenValues
values_at formats n = get_or (map (λ f. f.values) formats) n []

values_kept : (formats more : List Format) (n : ℕ) → n < length formats
    → values_at (formats ++ more) n ≡ values_at formats n
values_kept formats more n h =
    ap (λ ms. get_or ms n []) (map-append (λ (f : Format). f.values) formats more)
    ∙ get_or_append_left (map (λ (f : Format). f.values) formats) (map (λ (f : Format). f.values) more) [] n
    (omega (arith, length-map formats (λ (f : Format). f.values)))

-- a pattern stays what it is where sets come behind the others, or formats
pub kept_by_sets : (width : ℕ) (sets more : List SetDef) (formats : List Format) (p : Pattern)
    → IsSoundOf width sets formats p → IsSoundOf width (sets ++ more) formats p
kept_by_sets width sets more formats p h = record {
  named = h.named;
  masks = h.masks;
  bits = h.bits;
  format = h.format;
  set = let below : set_number formats p < length sets = h.set in omega (arith, length-append sets more);
  values = h.values;
  arguments = subst (λ ms. IsPermutation (given_names formats p) (member_names ms))
      (sym (members_kept sets more (set_number formats p) h.set)) h.arguments;
}

pub kept_by_formats : (width : ℕ) (sets : List SetDef) (formats more : List Format) (p : Pattern)
    → IsSoundOf width sets formats p → IsSoundOf width sets (formats ++ more) p
kept_by_formats width sets formats more p h =
    let number : set_number (formats ++ more) p ≡ set_number formats p =
    set_number_kept formats more p.format h.format in
    let values : values_at (formats ++ more) p.format ≡ values_at formats p.format =
    values_kept formats more p.format h.format in
    record {
      named = h.named;
      masks = h.masks;
      bits = h.bits;
      format = let below : p.format < length formats = h.format in omega (arith, length-append formats more);
      set = let below : set_number formats p < length sets = h.set in omega arith;
      values = h.values;
      arguments = subst (λ n. IsPermutation (given_names (formats ++ more) p) (member_names (members_at sets n)))
          (sym number)
          (subst (λ vs. IsPermutation (value_names (vs ++ p.values)) (argument_names sets formats p))
          (sym values) h.arguments);
    }

-- one set more, of a name that no other has
pub names_differ_more : (sets : List SetDef) (s : SetDef) → SetsDiffer sets → All (λ t. t.name ≢ s.name) sets
    → SetsDiffer (sets ++ s ∷ [])
names_differ_more sets s h new = all_pairs_push (λ (a b : SetDef). a.name ≢ b.name) sets s h new

-- what a choice of a set gives, whose arguments are such
pub record IsSetChosen (width : ℕ) (sets after : List SetDef) (n : ℕ) (AreSuch : List Member → Type 0) : Type 0 where
  pub sound : All IsSoundSet after
  pub differ : SetsDiffer after
  pub number : n < length after
  pub arguments : AreSuch (members_at after n)
  pub keeps_format : (f : Format) → IsSoundFormat width sets f → IsSoundFormat width after f
  pub keeps : (formats : List Format) (p : Pattern) → IsSoundOf width sets formats p → IsSoundOf width after formats p
  pub few : length after ≤ length sets + 1

place_or_length : (b : Bool) (place count : ℕ) → nat_lt place count ≡ b
    → unwrap_or (if b then Some place else None) count ≤ count
place_or_length true place count e = grind (arith, nat_tests)
place_or_length false place count e = omega arith

pub set_within : (sets : List SetDef) (values : GivenValues) (name : Option (List ℕ))
    → set_chosen sets values name ≤ length sets
set_within sets values None = prefix_len-le-length (λ s. not (has_exactly values s)) sets
set_within sets values (Some name) =
    place_or_length (nat_lt (position_or_len (λ s. is_text name s.name) sets) (length sets))
    (position_or_len (λ s. is_text name s.name) sets) (length sets) refl

below_or_last : (n m : ℕ) → n ≤ m → (n == m) ≡ false → n < m
below_or_last n m h e = grind (arith, nat_tests)

-- a set that is there, or a new one
pub choose_set : (width : ℕ) (sets : List SetDef) (n : ℕ) (values : GivenValues) (name : List ℕ) (is_new : Bool)
    (AreSuch : List Member → Type 0) → n ≤ length sets → (n == length sets) ≡ is_new
    → AreGiven width values → ((s : SetDef) → slice_get sets n ≡ Some s → IsSoundSet s → AreSuch s.members)
    → AreSuch (map int_member values)
    → All IsSoundSet sets → SetsDiffer sets → (is_new ≡ true → IsName name × All (λ t. t.name ≢ name) sets)
    → IsSetChosen width sets (sets_with sets values (name_where is_new name)) n AreSuch
choose_set width sets n values name false AreSuch within e given old fresh sound differ new =
    let below : n < length sets = below_or_last n (length sets) within e in
    let d : SetDef = new_set name values in
    let there : slice_get sets n ≡ Some (get_or sets n d) = slice_get-get_or sets n d below in
    let members : members_at sets n ≡ (get_or sets n d).members =
    get_or-map (λ (s : SetDef). s.members) sets n d [] below in
    record {
      sound = sound;
      differ = differ;
      number = below;
      arguments = subst AreSuch (sym members) (old (get_or sets n d) there (sound n d below));
      keeps_format = λ f h. h;
      keeps = λ formats p h. h;
      few = omega arith;
    }
choose_set width sets n values name true AreSuch within e given old fresh sound differ new =
    let last : n ≡ length sets = eqb-true n (length sets) e in
    let s : SetDef = new_set name values in
    let count : length (sets ++ s ∷ []) ≡ length sets + 1 = length_push sets s in
    let listed : map (λ (s : SetDef). s.members) (sets ++ s ∷ []) ≡ map (λ (s : SetDef). s.members) sets ++ s.members
    ∷ [] = map-append (λ (s : SetDef). s.members) sets (s ∷ []) in
    let members : members_at (sets ++ s ∷ []) n ≡ s.members =
    ap (λ ms. get_or ms n []) listed
    ∙ get_or_push (map (λ (s : SetDef). s.members) sets) s.members [] n (length-map sets (λ (s : SetDef). s.members)
    ∙ sym last) in
    record {
      sound = All-push IsSoundSet sets s sound (new_set_is_sound width name values (new refl).0 given);
      differ = names_differ_more sets s differ (new refl).1;
      number = omega arith;
      arguments = subst AreSuch (sym members) fresh;
      keeps_format = λ f h. format_kept width sets (s ∷ []) f h;
      keeps = λ formats p h. kept_by_sets width sets (s ∷ []) formats p h;
      few = omega arith;
    }

-- what a choice of a format gives to a pattern whose line gives these values
pub record IsFormatChosen (width : ℕ) (sets : List SetDef) (formats after : List Format) (set n : ℕ)
    (values : GivenValues) : Type 0 where
  pub sound : All (IsSoundFormat width sets) after
  pub differ : FormatsDiffer after
  pub number : n < length after
  pub set_of : set_of_format after n ≡ set
  pub names : IsPermutation (value_names (values_at after n ++ constants_of values)) (value_names values)
  pub keeps : (p : Pattern) → IsSoundOf width sets formats p → IsSoundOf width sets after p
  pub keeps_set : (p : Pattern) → IsSoundOf width sets formats p → set_number after p ≡ set_number formats p
  pub few : length after ≤ length formats + 1

-- the parts of the test
fits_set : (width set : ℕ) (values : GivenValues) (f : Format) → fits_pattern width set values f ≡ true
    → (f.set ≡ set) × (has_fields_of values f ≡ true)
fits_set width set values f h =
    let parts = and_parts (f.set == set) ((f.bits == width) && has_fields_of values f) h in
    (eqb-true f.set set parts.0, (and_parts (f.bits == width) (has_fields_of values f) parts.1).1)

last_of_map : {X Y : Type 0} (f : X → Y) (xs : List X) (x : X) (d : Y) (n : ℕ) → n ≡ length xs
    → get_or (map f (xs ++ x ∷ [])) n d ≡ f x
last_of_map f xs x d n last =
    ap (λ ys. get_or ys n d) (map-append f xs (x ∷ [])) ∙ get_or_push (map f xs) (f x) d n (length-map xs f ∙ sym last)

pub choose_format : (width : ℕ) (sets : List SetDef) (formats : List Format) (set : ℕ) (values : GivenValues)
    (name : List ℕ) (is_new : Bool) → (matching_format width set values formats == length formats) ≡ is_new
    → AreGiven width values → All (IsSoundFormat width sets) formats → FormatsDiffer formats
    → (is_new ≡ true → IsSoundFormat width sets (new_format width name set (fields_of values))
    × All (λ f. f.name ≢ name) formats)
    → IsFormatChosen width sets formats (formats_with width formats set (fields_of values) (name_where is_new name)) set
    (matching_format width set values formats) values
choose_format width sets formats set values name false e given sound differ new =
    let n : ℕ = matching_format width set values formats in
    let within : n ≤ length formats = prefix_len-le-length (λ f. not (fits_pattern width set values f)) formats in
    let below : n < length formats = below_or_last n (length formats) within e in
    let d : Format = new_format width name set values in
    let f : Format = get_or formats n d in
    let chosen = fits_set width set values f (passes_at_first (fits_pattern width set values) formats d below) in
    let listed : values_at formats n ≡ f.values = get_or-map (λ (f : Format). f.values) formats n d [] below in
    record {
      sound = sound;
      differ = differ;
      number = below;
      set_of = get_or-map (λ (f : Format). f.set) formats n d 0 below ∙ chosen.0;
      names = subst (λ vs. IsPermutation (value_names (vs ++ constants_of values)) (value_names values)) (sym listed)
          (taken_with_constants values f given.differ (sound n d below).arguments.differ chosen.1);
      keeps = λ p h. h;
      keeps_set = λ p h. refl;
      few = omega arith;
    }
choose_format width sets formats set values name true e given sound differ new =
    let n : ℕ = matching_format width set values formats in
    let last : n ≡ length formats = eqb-true n (length formats) e in
    let f : Format = new_format width name set (fields_of values) in
    let count : length (formats ++ f ∷ []) ≡ length formats + 1 = length_push formats f in
    record {
      sound = All-push (IsSoundFormat width sets) formats f sound (new refl).0;
      differ = all_pairs_push (λ (f g : Format). f.name ≢ g.name) formats f differ (new refl).1;
      number = omega arith;
      set_of = last_of_map (λ (f : Format). f.set) formats f 0 n last;
      names = subst (λ vs. IsPermutation (value_names (vs ++ constants_of values)) (value_names values))
          (sym (last_of_map (λ (f : Format). f.values) formats f [] n last)) (new_with_constants values);
      keeps = λ p h. kept_by_formats width sets formats (f ∷ []) p h;
      keeps_set = λ p h. set_number_kept formats (f ∷ []) p.format h.format;
      few = omega arith;
    }

-- earlier patterns of a name have the set of this number
pub one_set_more : (formats : List Format) (patterns : List Pattern) (p : Pattern) (set : ℕ)
    → set_number formats p ≡ set
    → AllPairs (HaveOneSet formats) patterns → All (λ q. p.name ≡ q.name → set_number formats q ≡ set) patterns
    → AllPairs (HaveOneSet formats) (patterns ++ p ∷ [])
one_set_more formats patterns p set own differ same =
    all_pairs_push (HaveOneSet formats) patterns p differ (λ k d below e. same k d below (sym e) ∙ sym own)

pub same_set : (formats : List Format) (patterns : List Pattern) (set : ℕ) (name : List ℕ)
    → has_other_set formats patterns set name ≡ false
    → All (λ q. name ≡ q.name → set_number formats q ≡ set) patterns
same_set formats patterns set name h k d below e =
    let q : Pattern = get_or patterns k d in
    eqb-true (set_number formats q) set (other_half (set_number formats q == set) (is_text name q.name)
    (text_same name q.name e)
    (none_passes (λ (r : Pattern). not (set_number formats r == set) && is_text name r.name) patterns h k d below))
