-- The parts of a sound model are sound, and their text decodes its patterns.
use Rattle.std.proofs.Common.{◌≡◌, ◌≢◌, ℕ, ◌<◌, ◌||◌, List, [], ◌∷◌, length, get_or, map, Option, Some, None, Bool, not}
use Rattle.std.proofs.Common.{true, false, cond, refl, sym, ap, ap₂, ◌∙◌, subst}
use Rattle.std.specs.Prelude.{All, AllPairs, IsPermutation, IsSome, option_map}
use Rattle.std.specs.List.{list_any}
use Rattle.std.proofs.lemmas.List.{get_or-map, length-map}
use Rattle.std.proofs.lemmas.List.Sorted.{list_any-IsPermutation}
use Rattle.std.proofs.lemmas.Bool.{and_parts}
use Rattle.std.proofs.lemmas.List.Elements.{All-append, All-cons, All-filter, All-head, All-map, All-nil, All-tail}
use Rattle.std.proofs.lemmas.List.Elements.{All-weaker, filter_passes}
use Rattle.std.proofs.lemmas.List.Folds.{list_any_at}
use Rattle.dt_values.specs.Names.{is_name, IsName}
use Rattle.dt_values.specs.Types.{is_text}
use Rattle.dt_values.specs.Widths.{width_bits}
use Rattle.dt_values.specs.declared.ctype.CType.{CType}
use Rattle.dt_values.specs.declared.ctype.CType.TheVariants.{Int, I8, I16, I32, I64, U8, U16, U32, U64, Other}
use Rattle.dt_values.specs.declared.ctype.Member.{Member}
use Rattle.dt_values.specs.declared.width.Width.{Width}
use Rattle.dt_fields.specs.CNames.{begins_with_letter, is_ident, is_keyword, IsCName}
use Rattle.dt_values.specs.SetsByName.{set_at}
use Rattle.dt_fields.specs.SoundSets.{IsSoundType, IsSoundSet}
use Rattle.dt_values.specs.declared.set.SetDef.{SetDef}
use Rattle.dt_model.specs.declared.format.Format.{Format}
use Rattle.dt_model.specs.declared.pattern.Pattern.{Pattern}
use Rattle.dt_model.specs.declared.options.Options.{Options}
use Rattle.dt_model.specs.declared.value.FieldValue.{FieldValue}
use Rattle.dt_model.specs.Options.{IsOptions}
use Rattle.dt_model.specs.Patterns.{GivenValues}
use Rattle.dt_model.specs.declared.model.Model.{Model}
use Rattle.dt_model.proofs.OptionNames.{option_named}
use Rattle.dt_model.specs.View.{set_number, given_values, members_of_pattern, pattern_seen, trial_pattern}
use Rattle.dt_model.specs.Models.{definitions_in}
use Rattle.dt_model.specs.Sound.{IsSound, IsSoundPattern, IsSoundValue}
use Rattle.c_subset.specs.Programs.{Name, Extraction}
use Rattle.c_exprs.specs.Forms.{AssignmentKeeps}
use Rattle.c_exprs.specs.Exprs.{Assignment}
use Rattle.c_subset.specs.Keeps.{ExtractionKeeps, IsTypeKept, SetKeeps}
use Rattle.dt_model.specs.SetOrder.{given_in, given_before, in_set_order}
use Rattle.c_eval.specs.Meaning.{helper_bits}
use Rattle.c_eval.specs.Runs.{assigns_in}
use Rattle.c_fields.specs.Values.{HasRoom}
use Rattle.c_fields.specs.Written.{assignment_of}
use Rattle.c_fields.proofs.Forms.{value_stands}
use Rattle.c_writer.specs.Parts.{Parts, set_name, set_members, set_name_of, format_name, format_values_of}
use Rattle.c_writer.specs.Parts.{assignments_of, extraction_of, named_pattern, parts_of}
use Rattle.c_writer.specs.Sound.{IsSoundIn, HaveOneSet, AreSound, OwnKeeps}
use Rattle.c_writer.specs.Uses.{declared_sets}
use Rattle.c_writer.specs.Within.{AreWithin, FormatHasRoom, HaveValuesRoom, PatternHasRoom}
use Rattle.c_writer.proofs.Extracting.{assigns_at}
use Rattle.c_writer.proofs.Filling.{given_has}
use Rattle.c_writer.proofs.GivenOnce.{given_apart}
use Rattle.c_writer.proofs.SoundValues.{value_has_room, value_keeps}
use Rattle.c_writer.proofs.Rules.{pairs_map}
use Rattle.c_writer.proofs.SetsByName.{text_itself, found_at}

no_set : SetDef
no_set = record { name = []; members = []; outside = false }

no_member : Member
no_member = record { ctype = Int; name = [] }

abbrev no_format : Format
no_format = record { name = []; set = 0; bits = 0; fixed_bits = 0; fixed_mask = 0; ignored = 0; values = [] }

no_pattern : Pattern
no_pattern = record {
  name = [];
  file = 0;
  line = 0;
  format = 0;
  bits = 0;
  fixed_bits = 0;
  fixed_mask = 0;
  ignored = 0;
  values = [];
}

-- what a sound set says of a declared one
name_of_c_name : (n : Name) → IsCName n → IsName n
name_of_c_name n h = (and_parts (begins_with_letter n) (is_name n) (and_parts (is_ident n) (not (is_keyword n)) h).0).1

type_kept : (t : CType) → IsSoundType t → IsTypeKept t
type_kept Int h = tt
type_kept I8 h = tt
type_kept I16 h = tt
type_kept I32 h = tt
type_kept I64 h = tt
type_kept U8 h = tt
type_kept U16 h = tt
type_kept U32 h = tt
type_kept U64 h = tt
type_kept (Other n) h = (h.named, h.unknown)

set_keeps : (s : SetDef) → s.outside ≡ false → IsSoundSet s → SetKeeps s
set_keeps s inside h = record {
  named = h.named;
  inside = inside;
  few = h.few;
  arguments_named = All-weaker (λ (m : Member). IsCName m.name) (λ (m : Member). IsName m.name)
      (λ m k. name_of_c_name m.name k) s.members h.c_names;
  arguments_differ = pairs_map (λ x y. x ≢ y) (λ (m : Member). m.name) no_member s.members h.different;
  types = All-weaker (λ (m : Member). IsSoundType m.ctype) (λ (m : Member). IsTypeKept m.ctype)
      (λ m k. type_kept m.ctype k) s.members h.types;
}

not_outside : (b : Bool) → not b ≡ true → b ≡ false
not_outside true h = cc
not_outside false h = refl

declared_keep : (sets : List SetDef) → All IsSoundSet sets → All SetKeeps (declared_sets sets)
declared_keep sets h k d below =
    let s = get_or (declared_sets sets) k d in
    set_keeps s (not_outside s.outside (filter_passes (λ t. not t.outside) sets k d below))
    (All-filter (λ t. not t.outside) IsSoundSet sets h k d below)

-- what holds of all items holds of the item of a number
at : {X Y : Type 0} (P : Y → Type 0) (f : X → Y) (xs : List X) (n : ℕ) (d : Y) → All (λ x. P (f x)) xs → n < length xs
    → P (get_or (map f xs) n d)
at P f xs n d h below = All-map P f xs h n d (subst (λ l. n < l) (sym (length-map xs f)) below)

-- what an argument gets, by a permutation of the arguments' names
given_first : (b : Bool) (given : FieldValue) (rest : Option FieldValue) → b ≡ true → IsSome (cond b (Some given) rest)
given_first true given rest h = refl
given_first false given rest h = cc

given_where : (name : Name) (v : Name × FieldValue) (vs : GivenValues) (b : Bool)
    → (b || list_any (is_text name) (map (λ (w : Name × FieldValue). w.0) vs)) ≡ true
    → (list_any (is_text name) (map (λ (w : Name × FieldValue). w.0) vs) ≡ true → IsSome (given_in vs name))
    → IsSome (cond b (Some v.1) (given_in vs name))
given_where name v vs true h later = refl
given_where name v vs false h later = later h

given_some : (name : Name) (vs : GivenValues)
    → list_any (is_text name) (map (λ (w : Name × FieldValue). w.0) vs) ≡ true → IsSome (given_in vs name)
given_some name [] h = cc
given_some name (v ∷ vs) h = given_where name v vs (is_text name v.0) h (given_some name vs)

each_given : (ms : List Member) (vs : GivenValues)
    → IsPermutation (map (λ (v : Name × FieldValue). v.0) vs) (map (λ (m : Member). m.name) ms)
    → All (λ m. IsSome (given_in vs m.name)) ms
each_given ms vs h k d below =
    let name = (get_or ms k d).name in
    let names = map (λ (m : Member). m.name) ms in
    let there : is_text name (get_or names k d.name) ≡ true =
    ap (is_text name) (get_or-map (λ (m : Member). m.name) ms k d d.name below) ∙ text_itself name in
    given_some name vs
    (list_any-IsPermutation (is_text name) (map (λ (v : Name × FieldValue). v.0) vs) names h
    ∙ list_any_at (is_text name) names k d.name
    (subst (λ n. k < n) (sym (length-map ms (λ (m : Member). m.name))) below) there)

-- what sound values assign keeps the rules, where each such assignment does
module _ (w : Width) (set : Option Name) (Keeps : Assignment → Type 0)
    (each : (name : Name) (given : FieldValue) → IsName name → IsSoundValue (width_bits w) given
    → Keeps (assignment_of (helper_bits w) set (name, given))) where
  assignment_keeps : (name : Name) (o : Option FieldValue) (vs all : GivenValues) → IsName name
      → given_in all name ≡ o → All (λ v. IsSoundValue (width_bits w) v.1) all
      → All Keeps (map (assignment_of (helper_bits w) set) vs)
      → All Keeps (map (assignment_of (helper_bits w) set) (given_before name o vs))
  assignment_keeps name None vs all named is sound h = h
  assignment_keeps name (Some given) vs all named is sound h =
      let keeps : IsSoundValue (width_bits w) given = given_has (IsSoundValue (width_bits w)) all name given sound is in
      All-cons Keeps (assignment_of (helper_bits w) set (name, given)) (map (assignment_of (helper_bits w) set) vs)
      (each name given named keeps) h

  assignments_keep : (ms : List Member) (vs : GivenValues) → All (λ m. IsName m.name) ms
      → All (λ v. IsSoundValue (width_bits w) v.1) vs → All Keeps (assignments_of (helper_bits w) set ms vs)
  assignments_keep [] vs named sound = All-nil _
  assignments_keep (m ∷ ms) vs named sound =
      assignment_keeps m.name (given_in vs m.name) (in_set_order ms vs) vs
      (All-head (λ (m : Member). IsName m.name) m ms named) refl sound
      (assignments_keep ms vs (All-tail (λ (m : Member). IsName m.name) m ms named) sound)

extraction_keeps : (w : Width) (ms : List Member) (vs : GivenValues) → All (λ m. IsName m.name) ms
    → All (λ v. IsSoundValue (width_bits w) v.1) vs → All AssignmentKeeps (assignments_of (helper_bits w) None ms vs)
extraction_keeps w =
    assignments_keep w None AssignmentKeeps
    (λ name given named sound. record
    { argument = named; value = value_keeps None w given sound; place = value_stands (helper_bits w) None given })

own_keep : (w : Width) (set : Name) (ms : List Member) (vs : GivenValues) → All (λ m. IsName m.name) ms
    → All (λ v. IsSoundValue (width_bits w) v.1) vs → All OwnKeeps (assignments_of (helper_bits w) (Some set) ms vs)
own_keep w set =
    assignments_keep w (Some set) OwnKeeps
    (λ name given named sound. record {
      argument = named;
      value = value_keeps (Some set) w given sound;
      place = value_stands (helper_bits w)
          (Some set) given;
    })

module _ (n : ℕ) (sets : List SetDef) (formats : List Format) where
  -- the format of a pattern, and what it says
  abbrev format_of : Pattern → Format
  format_of p = get_or formats p.format no_format

  abbrev IsOfFormat : Pattern → Type 0
  IsOfFormat p = p.format < length formats

  set_of_format : (p : Pattern) → IsOfFormat p → set_number formats p ≡ (format_of p).set
  set_of_format p below = get_or-map (λ (f : Format). f.set) formats p.format no_format 0 below

  name_of_format : (p : Pattern) → IsOfFormat p → format_name formats p.format ≡ (format_of p).name
  name_of_format p below = get_or-map (λ (f : Format). f.name) formats p.format no_format [] below

  values_of_format : (p : Pattern) → IsOfFormat p → format_values_of formats p ≡ (format_of p).values
  values_of_format p below = get_or-map (λ (f : Format). f.values) formats p.format no_format [] below

  -- the extraction of the format is found by its name
  format_there : (p : Pattern) → AllPairs (λ e f. e.format ≢ f.format) (map (extraction_of n sets) formats)
      → IsOfFormat p
      → assigns_in (map (extraction_of n sets) formats) (format_name formats p.format)
      (set_name sets (set_number formats p)) ≡ Some
      (assignments_of n None (members_of_pattern sets formats p) (format_values_of formats p))
  format_there p differ below =
      let es = map (extraction_of n sets) formats in
      let e = extraction_of n sets no_format in
      let inside : p.format < length es =
      subst (λ l. p.format < l) (sym (length-map formats (extraction_of n sets))) below in
      let there = subst (λ (x : Extraction). assigns_in es x.format x.set ≡ Some x.assigns)
      (get_or-map (extraction_of n sets) formats p.format no_format e below)
      (assigns_at es p.format e differ inside) in
      ap₂ (assigns_in es) (name_of_format p below) (ap (set_name sets) (set_of_format p below))
      ∙ there
      ∙ sym (ap₂ (λ s vs. Some (assignments_of n None (set_members sets s) vs)) (set_of_format p below)
      (values_of_format p below))

-- the set of a pattern is found by its name, with its arguments
set_there : (sets : List SetDef) (n : ℕ) → AllPairs (λ s t. s.name ≢ t.name) sets → n < length sets
    → option_map (λ s. s.members) (set_at sets (set_name sets n)) ≡ Some (set_members sets n)
set_there sets n differ below =
    ap (λ name. option_map (λ (s : SetDef). s.members) (set_at sets name))
    (get_or-map (λ (s : SetDef). s.name) sets n no_set [] below)
    ∙ ap (option_map (λ (s : SetDef). s.members)) (found_at sets n no_set differ below)
    ∙ ap Some (sym (get_or-map (λ (s : SetDef). s.members) sets n no_set [] below))

pub sound_parts : (options : Options) (model : Model) → IsOptions options → model.width ≡ options.width
    → IsSound model → AreSound (parts_of options (definitions_in model))
sound_parts options model asked width s = record {
  decoder_named = option_named options.decode asked.decode;
  prefix_named = option_named options.translate asked.translate;
  sets_named = names;
  sets_differ = s.formats.set_names;
  sets_keep = declared_keep model.sets s.formats.sets;
  extractions_keep = All-map ExtractionKeeps extraction model.formats (λ k d below.
      let f = get_or model.formats k d in
      record {
        format = s.formats.named k d below;
        set = at IsName (λ (d : SetDef). d.name) model.sets f.set [] names (s.formats.set_numbers k d below);
        assigns =
            extraction_keeps options.width (set_members model.sets f.set) f.values
            (at (λ (ms : List Member). All (λ m. IsName m.name) ms)
            (λ (d : SetDef). d.members) model.sets f.set [] arguments (s.formats.set_numbers k d below))
            (values k d below);
      });
  formats_differ = apart;
  patterns_sound = All-map (IsSoundIn parts) (named_pattern model.sets model.formats) model.patterns each_sound;
  one_set = pairs_map HaveOneSet (named_pattern model.sets model.formats) no_pattern model.patterns
      (λ i j d below within same. ap (set_name model.sets) (s.patterns.one_set i j d below within same));
}
  where
    parts : Parts
    parts = parts_of options (definitions_in model)

    names : All (λ s. IsName s.name) model.sets
    names = All-weaker IsSoundSet (λ (d : SetDef). IsName d.name) (λ d h. h.named) model.sets s.formats.sets

    extraction : Format → Extraction
    extraction = extraction_of (helper_bits options.width) model.sets

    arguments : All (λ (d : SetDef). All (λ m. IsName m.name) d.members) model.sets
    arguments =
        All-weaker IsSoundSet (λ (d : SetDef). All (λ m. IsName m.name) d.members)
        (λ d h. All-weaker (λ (m : Member). IsCName m.name) (λ (m : Member). IsName m.name)
        (λ m k. name_of_c_name m.name k) d.members h.c_names) model.sets s.formats.sets

    values : All (λ (f : Format). All (λ v. IsSoundValue (width_bits options.width) v.1) f.values) model.formats
    values = subst (λ w. All (λ (f : Format). All (λ v. IsSoundValue (width_bits w) v.1) f.values) model.formats)
        width s.formats.values

    own_values : All (λ (p : Pattern). All (λ v. IsSoundValue (width_bits options.width) v.1) p.values) model.patterns
    own_values = subst (λ w. All (λ (p : Pattern). All (λ v. IsSoundValue (width_bits w) v.1) p.values)
        model.patterns) width s.patterns.values

    differ : All (λ (d : SetDef). AllPairs (λ (m n : Member). m.name ≢ n.name) d.members) model.sets
    differ = All-weaker IsSoundSet (λ (d : SetDef). AllPairs (λ (m n : Member). m.name ≢ n.name) d.members)
        (λ d h. h.different) model.sets s.formats.sets

    apart : AllPairs (λ e f. e.format ≢ f.format) (map extraction model.formats)
    apart = pairs_map (λ (e f : Extraction). e.format ≢ f.format) extraction no_format model.formats s.formats.names

    flat : All (λ p. IsSoundPattern (width_bits model.width) (pattern_seen p)) model.patterns
    flat k d below =
        subst (IsSoundPattern (width_bits model.width))
        (get_or-map pattern_seen model.patterns k d (pattern_seen d) below)
        (s.patterns.flat k (pattern_seen d) (subst (λ l. k < l) (sym (length-map model.patterns pattern_seen)) below))

    each_sound : All (λ p. IsSoundIn parts (named_pattern model.sets model.formats p)) model.patterns
    each_sound k d below =
        let p = get_or model.patterns k d in
        let format : p.format < length model.formats = s.patterns.format_numbers k d below in
        let set : set_number model.formats p < length model.sets =
        at (λ n. n < length model.sets) (λ (f : Format). f.set) model.formats p.format 0 s.formats.set_numbers format in
        record {
          pattern = subst (λ w. IsSoundPattern (width_bits w) (pattern_seen p)) width (flat k d below);
          format_named = at IsName (λ (f : Format). f.name) model.formats p.format [] s.formats.named format;
          set_named = at IsName (λ (d : SetDef). d.name) model.sets (set_number model.formats p) [] names set;
          set = set_there model.sets (set_number model.formats p) s.formats.set_names set;
          format = format_there (helper_bits options.width) model.sets model.formats p apart format;
          values = record {
            each = each_given (members_of_pattern model.sets model.formats p) (given_values model.formats p)
                (s.patterns.arguments k d below);
            sound =
                All-append (λ (v : Name × FieldValue). IsSoundValue (width_bits options.width) v.1)
                (format_values_of model.formats p) p.values
                (at (λ (vs : GivenValues). All (λ v. IsSoundValue (width_bits options.width) v.1) vs)
                (λ (f : Format). f.values) model.formats p.format [] values format)
                (own_values k d below);
          };
          once = record {
            all = refl;
            apart =
                given_apart (format_values_of model.formats p) p.values (members_of_pattern model.sets model.formats p)
                (at (λ (ms : List Member). AllPairs (λ m n. m.name ≢ n.name) ms)
                (λ (d : SetDef). d.members) model.sets (set_number model.formats p) [] differ set)
                (s.patterns.arguments k d below);
          };
          own =
              own_keep options.width (set_name_of model.sets model.formats p)
              (members_of_pattern model.sets model.formats p) p.values
              (at (λ (ms : List Member). All (λ m. IsName m.name) ms) (λ (d : SetDef). d.members) model.sets
              (set_number model.formats p) [] arguments set)
              (own_values k d below);
        }

-- the numbers of a sound model are in range
pub within_sound : (model : Model) → IsSound model → AreWithin (definitions_in model)
within_sound model s = record { forms = s.formats.set_numbers; patterns = s.patterns.format_numbers }

-- helpers have room for its values
have_room : (w : Width) (vs : GivenValues) → All (λ v. IsSoundValue (width_bits w) v.1) vs
    → HaveValuesRoom (helper_bits w) vs
have_room w vs sound = All-weaker (λ v. IsSoundValue (width_bits w) v.1) (λ v. HasRoom (helper_bits w) v.1)
    (λ v h. value_has_room w v.1 h) vs sound

pub room_sound : (options : Options) (model : Model) → model.width ≡ options.width → IsSound model
    → All (FormatHasRoom (helper_bits options.width)) model.formats
room_sound options model width s =
    subst (λ w. All (FormatHasRoom (helper_bits w)) model.formats) width
    (λ k d below. have_room model.width (get_or model.formats k d).values (s.formats.values k d below))

pub own_room_sound : (options : Options) (model : Model) → model.width ≡ options.width → IsSound model
    → All (PatternHasRoom (helper_bits options.width)) model.patterns
own_room_sound options model width s =
    subst (λ w. All (PatternHasRoom (helper_bits w)) model.patterns) width
    (λ k d below. have_room model.width (get_or model.patterns k d).values (s.patterns.values k d below))

pub trials_of_parts : (sets : List SetDef) (formats : List Format) (ps : List Pattern)
    → map (λ q. q.trial) (map (named_pattern sets formats) ps) ≡ map (trial_pattern sets formats) ps
trials_of_parts sets formats [] = refl
trials_of_parts sets formats (p ∷ ps) = ap (λ l. trial_pattern sets formats p ∷ l) (trials_of_parts sets formats ps)
