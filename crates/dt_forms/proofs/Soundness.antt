-- The model of files that break no rule is sound.
use Rattle.std.proofs.Common.{◌≡◌, ◌≢◌, ℕ, ◌*◌, ◌^◌, ◌<◌, ◌≤◌, List, length, get_or, map, None, refl, ap, ap₂, ◌∙◌, sym, subst, arith, bit_and}
use Rattle.std.proofs.lemmas.Nat.{and_le_r}
use Rattle.std.specs.List.{All, AllPairs}
use Rattle.std.proofs.lemmas.List.Elements.{All-map, All-same, All-weaker}
use Rattle.dt_values.specs.Widths.{width_bits}
use Rattle.dt_lines.specs.declared.line.Position.{Position}
use Rattle.dt_values.specs.declared.set.SetDef.{SetDef}
use Rattle.dt_model.specs.declared.format.Format.{Format}
use Rattle.dt_model.specs.declared.pattern.Pattern.{Pattern}
use Rattle.dt_model.specs.declared.model.Model.{Model}
use Rattle.dt_model.specs.declared.options.Options.{Options}
use Rattle.dt_model.specs.declared.limits.TheConstants.{MOST_FILES}
use Rattle.dt_forms.specs.FileLines.{FileLine, all_lines}
use Rattle.dt_model.specs.Models.{Definitions, definitions_in}
use Rattle.dt_forms.specs.Models.{IsModelOf, definitions_of, flat_list}
use Rattle.dt_model.specs.Options.{IsOptionName}
use Rattle.dt_model.specs.Patterns.{FlatPattern, position_of}
use Rattle.dt_forms.specs.Positions.{first_token_at}
use Rattle.dt_forms.specs.Rules.{faults_of_files, first_fault, scope_before}
use Rattle.dt_scope.specs.Scope.{Scope, nothing_defined}
use Rattle.dt_model.specs.Sound.{AreSoundFormats, AreSoundPatterns, IsEarlier, IsSound, IsSoundPattern, pattern_position, positions_of}
use Rattle.dt_model.specs.Trees.{items_of, numbers_of, numbers_from}
use Rattle.dt_model.specs.View.{pattern_seen}
use Rattle.dt_patterns.proofs.Additions.{IsSoundOf}
use Rattle.dt_forms.proofs.EntryDepths.{at_most_16}
use Rattle.dt_forms.proofs.EntryNumbers.{marked, numbers_marked}
use Rattle.dt_forms.proofs.EntryOrder.{entries_rise}
use Rattle.dt_forms.proofs.EntryPositions.{marked_at, places, positions_marked}
use Rattle.dt_forms.proofs.Faults.{no_first}
use Rattle.dt_forms.proofs.LineOrder.{HasFirstToken, IsPlaced, all_found, all_rise, files_few, files_placed}
use Rattle.dt_forms.proofs.LinePatterns.{IsPatternOn, all_hold, patterns_rise}
use Rattle.dt_forms.proofs.OpenGroups.{files_kept}
use Rattle.dt_forms.proofs.SoundLines.{IsSoundScope, lines_sound}

abbrev pub AreShort : List (List ℕ) → Type 0
AreShort texts = All (λ t. length t < 2 ^ 32) texts

-- what files define that break no rule
pub files_sound : (options : Options) (texts : List (List ℕ)) → IsOptionName options.decode → length texts ≤ MOST_FILES
    → AreShort texts → first_fault options texts ≡ None
    → IsSoundScope (width_bits options.width) (2 ^ 36) 0 (scope_before options (all_lines texts))
files_sound options texts decode few short none =
    let lines : length (all_lines texts) ≤ length texts * 2 ^ 32 = files_few 0 texts short in
    let within : length (all_lines texts) ≤ 2 ^ 36 = omega arith in
    lines_sound options (2 ^ 36) decode (omega arith) (all_lines texts) within
    (files_kept options nothing_defined 0 texts refl
    (no_first (faults_of_files options nothing_defined 0 texts) none)).0

-- a pattern in one of so many files, on a line with a number that fits in 32 bits
abbrev IsPlacedPattern : Pattern → Type 0
IsPlacedPattern p = (p.file < MOST_FILES) × (p.line < 2 ^ 32)

placed_on : (l : FileLine) → IsPlaced MOST_FILES l → (p : Pattern) → IsPatternOn l p → IsPlacedPattern p
placed_on l h p on =
    let file : p.file ≡ l.file = ap (λ (a : Position). a.file) on.stands in
    let line : p.line ≡ l.line.line = ap (λ (a : Position). a.line) on.stands in
    let low : l.file < MOST_FILES = h.0 in
    let short : l.line.line < 2 ^ 32 = h.1 in
    (omega arith, omega arith)

patterns_placed : (options : Options) (texts : List (List ℕ)) → length texts ≤ MOST_FILES → AreShort texts
    → All IsPlacedPattern (definitions_of options texts).patterns
patterns_placed options texts few short =
    all_hold options IsPlacedPattern (all_lines texts)
    (All-weaker (IsPlaced MOST_FILES) (λ (l : FileLine). (p : Pattern) → IsPatternOn l p
    → IsPlacedPattern p) placed_on (all_lines texts) (files_placed MOST_FILES 0 texts (omega arith) short))

-- bits under a mask are below what the mask is below
bits_below : (bits mask bound : ℕ) → bit_and bits mask ≡ bits → mask < bound → bits < bound
bits_below bits mask bound h below =
    let under : bit_and bits mask ≤ mask = and_le_r bits mask in
    omega arith

sound_pattern : (width : ℕ) (sets : List SetDef) (formats : List Format) (p : Pattern) → IsSoundOf width sets formats p
    → IsPlacedPattern p → IsSoundPattern width (pattern_seen p)
sound_pattern width sets formats p h placed = record {
  named = h.named;
  bits = h.bits;
  mask_below = h.masks.fixed_below;
  bits_below = bits_below p.fixed_bits p.fixed_mask (2 ^ width) h.masks.bits_in_mask h.masks.fixed_below;
  bits_in_mask = h.masks.bits_in_mask;
  file_below = let low : p.file < MOST_FILES = placed.0 in omega arith;
  line_below = placed.1;
}

pub flat_list_sound : (options : Options) (texts : List (List ℕ)) → IsOptionName options.decode
    → length texts ≤ MOST_FILES → AreShort texts → first_fault options texts ≡ None
    → All (IsSoundPattern (width_bits options.width)) (flat_list options texts)
flat_list_sound options texts decode few short none =
    let scope : Scope = scope_before options (all_lines texts) in
    let sound = files_sound options texts decode few short none in
    let placed = patterns_placed options texts few short in
    All-map (IsSoundPattern (width_bits options.width)) pattern_seen scope.patterns
    (λ k d below. sound_pattern (width_bits options.width) scope.sets scope.formats (get_or scope.patterns k d)
    (sound.patterns k d below) (placed k d below))

-- the name of a pattern is the first token at its position
abbrev IsNamedIn : List (List ℕ) → Pattern → Type 0
IsNamedIn texts p = first_token_at texts (pattern_position p) ≡ p.name

named_on : (texts : List (List ℕ)) (l : FileLine) → HasFirstToken texts l → (p : Pattern) → IsPatternOn l p
    → IsNamedIn texts p
named_on texts l h p on = ap (first_token_at texts) on.stands ∙ h ∙ on.name

pub names_of_patterns : (options : Options) (texts : List (List ℕ))
    → All (λ p. first_token_at texts (position_of p) ≡ p.name) (flat_list options texts)
names_of_patterns options texts =
    All-map (λ (p : FlatPattern). first_token_at texts (position_of p) ≡ p.name) pattern_seen
    (definitions_of options texts).patterns
    (all_hold options (IsNamedIn texts) (all_lines texts)
    (All-weaker (HasFirstToken texts) (λ (l : FileLine). (p : Pattern) → IsPatternOn l p
    → IsNamedIn texts p) (named_on texts) (all_lines texts) (all_found texts)))

-- the sets and formats of files that break no rule of lines
formats_sound : (options : Options) (texts : List (List ℕ)) → IsOptionName options.decode → length texts ≤ MOST_FILES
    → AreShort texts → first_fault options texts ≡ None
    → AreSoundFormats (width_bits options.width) (definitions_of options texts)
formats_sound options texts decode few short none =
    let sound = files_sound options texts decode few short none in
    record {
      sets = sound.sets;
      set_names = sound.sets_differ;
      named = λ k d below. (sound.formats k d below).named;
      names = sound.formats_differ;
      set_numbers = λ k d below. (sound.formats k d below).set;
      masks = λ k d below. (sound.formats k d below).masks;
      values = λ k d below. (sound.formats k d below).values;
    }

-- and their patterns
patterns_sound : (options : Options) (texts : List (List ℕ)) → IsOptionName options.decode → length texts ≤ MOST_FILES
    → AreShort texts → first_fault options texts ≡ None
    → AreSoundPatterns (width_bits options.width) (definitions_of options texts)
patterns_sound options texts decode few short none =
    let sound = files_sound options texts decode few short none in
    record {
      few = sound.few;
      flat = flat_list_sound options texts decode few short none;
      ignored = λ k d below. record {
        ignored_below = (sound.patterns k d below).masks.ignored_below;
        apart = (sound.patterns k d below).masks.apart;
      };
      positions = patterns_rise options (all_lines texts) (all_rise texts);
      format_numbers = λ k d below. (sound.patterns k d below).format;
      one_set = sound.one_set;
      arguments = λ k d below. (sound.patterns k d below).arguments;
      values = λ k d below. (sound.patterns k d below).values;
    }

-- what holds of the definitions of files holds of those of a model of them
of_model : (P : ℕ → Definitions → Type 0) (options : Options) (texts : List (List ℕ)) (model : Model)
    → IsModelOf options texts model
    → P (width_bits options.width) (definitions_of options texts) → P (width_bits model.width) (definitions_in model)
of_model P options texts model h p =
    subst (λ w. P (width_bits w) (definitions_in model)) (sym h.width)
    (subst (P (width_bits options.width)) (sym h.definitions) p)

pub sound_model : (options : Options) (texts : List (List ℕ)) (model : Model) → IsOptionName options.decode
    → length texts ≤ MOST_FILES → AreShort texts → first_fault options texts ≡ None
    → IsModelOf options texts model → IsSound model
sound_model options texts model decode few short none h =
    let kept : model.patterns ≡ (definitions_of options texts).patterns =
    ap (λ (d : Definitions). d.patterns) h.definitions in
    let scope : Scope = scope_before options (all_lines texts) in
    let sound = files_sound options texts decode few short none in
    let count : length scope.patterns ≡ length model.patterns = sym (ap length kept) in
    let once : numbers_of (items_of model.entries) ≡ numbers_from 0 (length model.patterns) =
    sym (numbers_marked (items_of model.entries)) ∙ ap marked h.entries ∙ sound.numbers ∙ ap (numbers_from 0) count in
    let rise : AllPairs IsEarlier (marked_at (places scope.patterns) scope.marks) =
    entries_rise options (all_lines texts) (all_rise texts) in
    let placed : marked_at (places scope.patterns) scope.marks ≡ positions_of model.patterns (items_of model.entries) =
    ap₂ (λ ps ms. marked_at (places ps) ms) (sym kept) (sym h.entries)
    ∙ positions_marked model.patterns (items_of model.entries) in
    record {
      formats = of_model AreSoundFormats options texts model h (formats_sound options texts decode few short none);
      patterns = of_model AreSoundPatterns options texts model h (patterns_sound options texts decode few short none);
      entries = record {
        each_once = once;
        nested = at_most_16 (items_of model.entries) scope.marks h.entries sound.nested;
        positions = subst (λ (bs : List Position). AllPairs IsEarlier bs) placed rise;
      };
    }
