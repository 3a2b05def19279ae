-- The expression of a sound value keeps the rules of the C subset, and helpers have room for it.
use Rattle.std.proofs.Common.{◌≡◌, ℕ, ◌<◌, ◌≤◌, ◌^◌, Bool, true, false, cond, List, [], ◌∷◌, Option, Some, None}
use Rattle.std.proofs.Common.{refl, arith, lit<}
use Rattle.std.specs.Prelude.{IfSome, IsTrue, is_some, not}
use Rattle.std.specs.List.{All}
use Rattle.std.proofs.lemmas.Bool.{and_parts}
use Rattle.std.proofs.lemmas.List.Elements.{All-head, All-tail, All-weaker}
use Rattle.dt_values.specs.Names.{IsName, is_name}
use Rattle.dt_values.specs.Widths.{width_bits}
use Rattle.dt_values.specs.declared.width.Width.{Width}
use Rattle.dt_values.specs.declared.width.Width.TheVariants.{W16, W32, W64}
use Rattle.dt_fields.specs.CNames.{IsCName, begins_with_letter, is_ident, is_keyword}
use Rattle.dt_fields.specs.Segments.{segment_end, total_length}
use Rattle.dt_fields.specs.SoundFields.{IsSoundField}
use Rattle.dt_fields.specs.declared.field.FieldDef.{FieldDef}
use Rattle.dt_fields.specs.declared.segment.Segment.{Segment}
use Rattle.dt_fields.specs.declared.segment.Segment.TheVariants.{Bits, Named}
use Rattle.dt_model.specs.declared.value.FieldValue.{FieldValue}
use Rattle.dt_model.specs.declared.value.FieldValue.TheVariants.{Field, Constant}
use Rattle.c_exprs.specs.Exprs.{Term, cast}
use Rattle.c_exprs.specs.Forms.{is_bits, is_function, SourceNamed, StandsIn, TermKeeps}
use Rattle.dt_match.specs.FieldValues.{has_sign}
use Rattle.c_eval.specs.Meaning.{helper_bits}
use Rattle.c_fields.specs.Values.{AreNamed, HasRoom, KeepsValueRules, IsValueNamed}
use Rattle.c_fields.specs.Written.{source_of, segment_term, folded, joined_term, applied_term, field_term, value_term}
use Rattle.c_fields.proofs.Folding.{total_more, fits_helpers}

-- what the segments of a field keep, where helpers have n bits
record Kept (n : ℕ) (set : Option (List ℕ)) (ss : List Segment) : Type 0 where
  within : All (λ s. segment_end s ≤ n) ss
  named : AreNamed set ss
  total : total_length ss ≤ n

rest_kept : (n : ℕ) (set : Option (List ℕ)) (s : Segment) (ss : List Segment) → Kept n set (s ∷ ss) → Kept n set ss
rest_kept n set s ss k = record {
  within = All-tail (λ s. segment_end s ≤ n) s ss k.within;
  named = All-tail (λ s. SourceNamed (source_of set s)) s ss k.named;
  total = (let t = k.total in omega (arith, total_more s ss));
}

segment_keeps : (n : ℕ) (set : Option (List ℕ)) (s : Segment) → n < 2 ^ 32 → segment_end s ≤ n
    → SourceNamed (source_of set s) → TermKeeps (segment_term set s)
segment_keeps n set (Bits p l sign) small within named =
    record { form = tt; names = (tt, (omega arith), (omega arith)) }
segment_keeps n set (Named name l sign) small within named =
    record { form = refl; names = (named, lit< tt, (omega arith)) }

first_keeps : (n : ℕ) (set : Option (List ℕ)) (s : Segment) (ss : List Segment) → n < 2 ^ 32 → Kept n set (s ∷ ss)
    → TermKeeps (segment_term set s)
first_keeps n set s ss small k =
    segment_keeps n set s small (All-head (λ s. segment_end s ≤ n) s ss k.within)
    (All-head (λ s. SourceNamed (source_of set s)) s ss k.named)

folded_is_bits : (n : ℕ) (set : Option (List ℕ)) (s : Segment) (ss : List Segment)
    → IsTrue (is_bits (folded n set s ss))
folded_is_bits n set s [] = refl
folded_is_bits n set s (t ∷ ts) = refl

folded_keeps : (n : ℕ) (set : Option (List ℕ)) (s : Segment) (ss : List Segment) → n < 2 ^ 32 → Kept n set (s ∷ ss)
    → TermKeeps (folded n set s ss)
folded_keeps n set s [] small k = first_keeps n set s [] small k
folded_keeps n set s (t ∷ ts) small k =
    let first = first_keeps n set s (t ∷ ts) small k in
    let rest_is = rest_kept n set s (t ∷ ts) k in
    let total = rest_is.total in
    let rest = folded_keeps n set t ts small rest_is in
    record {
      form = (folded_is_bits n set t ts, rest.form, refl, first.form);
      names = (rest.names, (omega arith), (omega arith), first.names);
    }

several_keeps : (sign : Bool) (e : Term) → IsTrue (is_bits e) → TermKeeps e → TermKeeps (cond sign (cast e) e)
several_keeps true e bits k = record { form = (bits, k.form); names = k.names }
several_keeps false e bits k = k

joined_keeps : (n : ℕ) (set : Option (List ℕ)) (ss : List Segment) → n < 2 ^ 32 → Kept n set ss
    → TermKeeps (joined_term n set ss)
joined_keeps n set [] small k = record { form = tt; names = lit< tt }
joined_keeps n set (s ∷ []) small k = first_keeps n set s [] small k
joined_keeps n set (s ∷ t ∷ ts) small k =
    several_keeps (has_sign s) (folded n set s (t ∷ ts)) refl (folded_keeps n set s (t ∷ ts) small k)

several_no_function : (sign : Bool) (e : Term) → IsTrue (not (is_function e))
    → IsTrue (not (is_function (cond sign (cast e) e)))
several_no_function true e no_function = refl
several_no_function false e no_function = no_function

joined_no_function : (n : ℕ) (set : Option (List ℕ)) (ss : List Segment)
    → IsTrue (not (is_function (joined_term n set ss)))
joined_no_function n set [] = refl
joined_no_function n set (s ∷ []) = refl
joined_no_function n set (s ∷ t ∷ ts) = several_no_function (has_sign s) (folded n set s (t ∷ ts)) refl

c_name_is_name : (name : List ℕ) → IsCName name → IsName name
c_name_is_name name h =
    let parts : (is_ident name ≡ true) × (not (is_keyword name) ≡ true) =
    and_parts (is_ident name) (not (is_keyword name)) h in
    let both : (begins_with_letter name ≡ true) × (is_name name ≡ true) =
    and_parts (begins_with_letter name) (is_name name) parts.0 in
    both.1

applied_keeps : (function : Option (List ℕ)) (ss : List Segment) (e : Term) → IfSome function IsCName
    → IsTrue (not (is_function e)) → TermKeeps e → TermKeeps (applied_term function ss e)
applied_keeps None ss e named no_function k = k
applied_keeps (Some name) [] e named no_function k = record { form = tt; names = c_name_is_name name named }
applied_keeps (Some name) (s ∷ ss) e named no_function k =
    record { form = (no_function, k.form); names = (c_name_is_name name named, k.names) }

-- ---- at a width
pub value_has_room : (w : Width) (value : FieldValue) → KeepsValueRules (width_bits w) value
    → HasRoom (helper_bits w) value
value_has_room w (Field field) sound =
    let fits = fits_helpers w in
    let total = sound.total in
    record { few = sound.few; total = (omega arith) }
value_has_room w (Constant z) fits = tt

within_helpers : (w : Width) (s : Segment) → segment_end s ≤ width_bits w → segment_end s ≤ helper_bits w
within_helpers w s within = let fits = fits_helpers w in omega arith

few_helpers : (w : Width) → helper_bits w < 2 ^ 32
few_helpers W16 = lit< tt
few_helpers W32 = lit< tt
few_helpers W64 = lit< tt

pub field_keeps : (w : Width) (set : Option (List ℕ)) (field : FieldDef) → IsSoundField (width_bits w) field
    → AreNamed set field.segments → TermKeeps (field_term (helper_bits w) set field)
field_keeps w set field sound named =
    let n = helper_bits w in
    let fits = fits_helpers w in
    let total = sound.total in
    let kept : Kept (helper_bits w) set field.segments = record {
      within =
          All-weaker (λ s. segment_end s ≤ width_bits w) (λ s. segment_end s ≤ helper_bits w) (within_helpers w)
          field.segments sound.within;
      named = named;
      total = (omega arith);
    } in
    applied_keeps field.function field.segments (joined_term n set field.segments) sound.c_name
    (joined_no_function n set field.segments) (joined_keeps n set field.segments (few_helpers w) kept)

pub value_keeps : (w : Width) (set : Option (List ℕ)) (value : FieldValue) → KeepsValueRules (width_bits w) value
    → IsValueNamed set value → TermKeeps (value_term (helper_bits w) set value)
value_keeps w set (Field field) sound named = field_keeps w set field sound named
value_keeps w set (Constant z) fits named = record { form = tt; names = fits }

-- ---- where arguments are named
segment_stands : (set : Option (List ℕ)) (s : Segment) → StandsIn (is_some set) (segment_term set s)
segment_stands set (Bits place length sign) = tt
segment_stands set (Named name length sign) = refl

folded_stands : (n : ℕ) (set : Option (List ℕ)) (s : Segment) (ss : List Segment)
    → StandsIn (is_some set) (folded n set s ss)
folded_stands n set s [] = segment_stands set s
folded_stands n set s (t ∷ ts) = (folded_stands n set t ts, segment_stands set s)

several_stands : (in_decoder sign : Bool) (e : Term) → StandsIn in_decoder e
    → StandsIn in_decoder (cond sign (cast e) e)
several_stands in_decoder true e h = h
several_stands in_decoder false e h = h

joined_stands : (n : ℕ) (set : Option (List ℕ)) (ss : List Segment) → StandsIn (is_some set) (joined_term n set ss)
joined_stands n set [] = tt
joined_stands n set (s ∷ []) = segment_stands set s
joined_stands n set (s ∷ t ∷ ts) =
    several_stands (is_some set) (has_sign s) (folded n set s (t ∷ ts)) (folded_stands n set s (t ∷ ts))

applied_stands : (in_decoder : Bool) (function : Option (List ℕ)) (ss : List Segment) (e : Term)
    → StandsIn in_decoder e → StandsIn in_decoder (applied_term function ss e)
applied_stands in_decoder None ss e h = h
applied_stands in_decoder (Some name) [] e h = tt
applied_stands in_decoder (Some name) (s ∷ ss) e h = h

pub field_stands : (n : ℕ) (set : Option (List ℕ)) (field : FieldDef) → StandsIn (is_some set) (field_term n set field)
field_stands n set field =
    applied_stands (is_some set) field.function field.segments (joined_term n set field.segments)
    (joined_stands n set field.segments)

pub value_stands : (n : ℕ) (set : Option (List ℕ)) (value : FieldValue)
    → StandsIn (is_some set) (value_term n set value)
value_stands n set (Field field) = field_stands n set field
value_stands n set (Constant z) = tt
