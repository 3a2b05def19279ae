-- The expression of a field has the field's value.
use Rattle.std.proofs.Common.{◌≡◌, ℕ, ◌+◌, ◌-◌, ◌*◌, ◌/◌, ◌%◌, ◌^◌, ◌<◌, ◌≤◌, Bool, true, false, cond, ◌&&◌}
use Rattle.std.proofs.Common.{List, [], ◌∷◌, ℤ, pos, Option, Some, None, option_map, option_and_then}
use Rattle.std.proofs.Common.{refl, sym, ap, ap₂, subst, ◌∙◌, arith, pow_mono, mod-eq_of_lt}
use Rattle.std.specs.List.{All}
use Rattle.std.proofs.lemmas.List.Elements.{All-head, All-tail, All-weaker}
use Rattle.std.proofs.lemmas.List.Sums.{sum_by-cons}
use Rattle.std.proofs.lemmas.Bool.{le-leb}
use Rattle.std.proofs.Math.Nat.{div-eq_of_lt}
use Rattle.dt_values.specs.BitFields.{signed, deposited, residue}
use Rattle.dt_values.specs.Widths.{width_bits}
use Rattle.dt_values.specs.declared.width.Width.{Width}
use Rattle.dt_values.specs.declared.width.Width.TheVariants.{W16, W32, W64}
use Rattle.dt_fields.specs.Segments.{segment_end, segment_length, total_length}
use Rattle.dt_fields.specs.SoundFields.{IsSoundField}
use Rattle.dt_fields.specs.declared.field.FieldDef.{FieldDef}
use Rattle.dt_fields.specs.declared.segment.Segment.{Segment}
use Rattle.dt_fields.specs.declared.segment.Segment.TheVariants.{Bits, Named}
use Rattle.dt_model.specs.declared.value.FieldValue.{FieldValue}
use Rattle.dt_model.specs.declared.value.FieldValue.TheVariants.{Field, Constant}
use Rattle.c_exprs.specs.Exprs.{Term, deposit, cast}
use Rattle.dt_match.specs.Arguments.{value_of}
use Rattle.dt_match.specs.FieldValues.{has_sign, segment_bits, joined, raw_value, answered, field_value}
use Rattle.c_eval.specs.Meaning.{Place, helper_bits, lies_in, guarded, extracted, extract_value, deposit_value}
use Rattle.c_eval.specs.Meaning.{value_at}
use Rattle.c_fields.specs.Values.{KeepsValueRules, ShowsValue}
use Rattle.c_fields.specs.Written.{segment_term, folded, joined_term, applied_term, field_term, value_term, IsShown}
use Rattle.c_fields.specs.Written.{Shows}
use Rattle.dt_values.proofs.Parts.{bits_below, residue_below, place_below}
use Rattle.c_fields.proofs.Signs.{spread, residue_of_signed, signed_of_spread, spread_below, spread_low, spread_joined}
use Rattle.dt_match.proofs.LowBits.{low_of_residue}

-- ---- bits that lie in a word
lies : (n start len : ℕ) → 1 ≤ len → start + len ≤ n → lies_in n start len ≡ true
lies n start len some inside = ap₂ ◌&&◌ (le-leb 1 len some) (le-leb (start + len) n inside)

inside_word : (n start len : ℕ) (z : ℤ) → 1 ≤ len → start + len ≤ n → guarded (lies_in n start len) z ≡ Some z
inside_word n start len z some inside = ap (λ t. guarded t z) (lies n start len some inside)

-- ---- one segment
abbrev segment_number : (List ℕ → ℤ) → ℕ → Segment → ℤ
segment_number held word s =
    cond (has_sign s) (signed (segment_length s) (segment_bits held word s)) (pos (segment_bits held word s))

segment_is : (set : Option (List ℕ)) (at : Place) (held : List ℕ → ℤ) (s : Segment)
    → at.word < 2 ^ at.bits → segment_end s ≤ at.bits → 1 ≤ segment_length s → IsShown set at held s
    → value_at at (segment_term set s) ≡ Some (segment_number held at.word s)
segment_is set at held (Bits p l sign) small inside some shown =
    let whole : at.word % 2 ^ at.bits ≡ at.word = mod-eq_of_lt small in
    inside_word at.bits p l _ some inside ∙ ap (λ x. Some (extracted sign x p l)) whole
segment_is set at held (Named name l sign) small inside some shown =
    ap (option_and_then (extract_value at.bits sign 0 l)) shown
    ∙ inside_word at.bits 0 l _ some (omega arith)
    ∙ ap (λ x. Some (cond sign (signed l x) (pos x))) (low_of_residue at.bits l (held name) inside)

segment_bits_below : (held : List ℕ → ℤ) (word : ℕ) (s : Segment) → segment_bits held word s < 2 ^ segment_length s
segment_bits_below held word (Bits p l sign) = bits_below word p l
segment_bits_below held word (Named name l sign) = residue_below l (held name)

pub total_more : (s : Segment) (ss : List Segment) → total_length (s ∷ ss) ≡ segment_length s + total_length ss
total_more s ss = sum_by-cons segment_length s ss

joined_below : (held : List ℕ → ℤ) (word : ℕ) (ss : List Segment) → joined held word ss < 2 ^ total_length ss
joined_below held word [] = omega arith
joined_below held word (s ∷ ss) =
    let below = place_below (segment_bits held word s) (total_length ss) (segment_length s) (joined held word ss)
    (segment_bits_below held word s) (joined_below held word ss) in
    let P : ℕ → Type 0 = λ n. joined held word (s ∷ ss) < 2 ^ n in
    subst P (omega (arith, total_more s ss)) below

-- ---- a number of m bits, with a sign or without, as a word of n bits
abbrev as_word : Bool → ℕ → ℕ → ℕ → ℕ
as_word sign n m x = cond sign (spread n m x) x

word_below : (sign : Bool) (n m x : ℕ) → x < 2 ^ m → m ≤ n → as_word sign n m x < 2 ^ n
word_below true n m x h k = spread_below n m x h k
word_below false n m x h k = let le : 2 ^ m ≤ 2 ^ n = pow_mono k in omega arith

word_low : (sign : Bool) (n m x : ℕ) → x < 2 ^ m → m ≤ n → as_word sign n m x % 2 ^ m ≡ x
word_low true n m x h k = spread_low n m x h k
word_low false n m x h k = mod-eq_of_lt h

word_of : (sign : Bool) (n m x : ℕ) → x < 2 ^ m → m ≤ n
    → residue n (cond sign (signed m x) (pos x)) ≡ as_word sign n m x
word_of true n m x h k = residue_of_signed n m x h k
word_of false n m x h k =
    let le : 2 ^ m ≤ 2 ^ n = pow_mono k in
    let small : x < 2 ^ n = omega arith in
    mod-eq_of_lt small

-- a part of l bits that is deposited above p others fills the word
word_joined : (sign : Bool) (n l p b j : ℕ) → 1 ≤ l → l + p ≤ n → b < 2 ^ l → j < 2 ^ p
    → as_word sign n l b % 2 ^ (n - p) * 2 ^ p + j ≡ as_word sign n (l + p) (b * 2 ^ p + j)
word_joined true n l p b j some k h below = spread_joined n l p b j some k h below
word_joined false n l p b j some k h below =
    let le : l ≤ n - p = omega arith in
    let a : 2 ^ l ≤ 2 ^ (n - p) = pow_mono le in
    let small : b < 2 ^ (n - p) = omega arith in
    let e : b % 2 ^ (n - p) ≡ b = mod-eq_of_lt small in
    ap (λ x. x * 2 ^ p + j) e

none_above : (v n : ℕ) → v < 2 ^ n → v / 2 ^ n * 2 ^ n ≡ 0
none_above v n h = let none : v / 2 ^ n ≡ 0 = div-eq_of_lt h in ap (λ x. x * 2 ^ n) none ∙ (omega arith)

deposit_is : (sign : Bool) (n l p b j v : ℕ) → 1 ≤ l → l + p ≤ n → b < 2 ^ l → j < 2 ^ p → v < 2 ^ n → v % 2 ^ p ≡ j
    → deposited v p (n - p) (as_word sign n l b) ≡ as_word sign n (l + p) (b * 2 ^ p + j)
deposit_is sign n l p b j v some k h below small low =
    let e : n ≡ p + (n - p) = omega arith in
    let P : ℕ → Type 0 = λ m. v / 2 ^ m * 2 ^ m ≡ 0 in
    let high : v / 2 ^ (p + (n - p)) * 2 ^ (p + (n - p)) ≡ 0 = subst P e (none_above v n small) in
    let fills = word_joined sign n l p b j some k h below in
    omega arith

-- ---- the folded expression
-- it has a value, which is this word modulo 2 to the helpers' bits
record Folds (at : Place) (e : Term) (word : ℕ) : Type 0 where
  value : ℤ
  is : value_at at e ≡ Some value
  in_word : residue at.bits value ≡ word

-- what the segments of a field keep where their expression is evaluated
record Ready (set : Option (List ℕ)) (at : Place) (held : List ℕ → ℤ) (ss : List Segment) : Type 0 where
  within : All (λ s. segment_end s ≤ at.bits) ss
  lengths : All (λ s. 1 ≤ segment_length s) ss
  shown : Shows set at held ss
  total : total_length ss ≤ at.bits

rest_ready : (set : Option (List ℕ)) (at : Place) (held : List ℕ → ℤ) (s : Segment) (ss : List Segment)
    → Ready set at held (s ∷ ss) → Ready set at held ss
rest_ready set at held s ss r = record {
  within = All-tail (λ s. segment_end s ≤ at.bits) s ss r.within;
  lengths = All-tail (λ s. 1 ≤ segment_length s) s ss r.lengths;
  shown = All-tail (IsShown set at held) s ss r.shown;
  total = (let t = r.total in omega (arith, total_more s ss));
}

first_is : (set : Option (List ℕ)) (at : Place) (held : List ℕ → ℤ) (s : Segment) (ss : List Segment)
    → at.word < 2 ^ at.bits → Ready set at held (s ∷ ss)
    → value_at at (segment_term set s) ≡ Some (segment_number held at.word s)
first_is set at held s ss small r =
    segment_is set at held s small
    (All-head (λ s. segment_end s ≤ at.bits) s ss r.within)
    (All-head (λ s. 1 ≤ segment_length s) s ss r.lengths)
    (All-head (IsShown set at held) s ss r.shown)

abbrev field_word : Place → (List ℕ → ℤ) → Segment → List Segment → ℕ
field_word at held s ss = as_word (has_sign s) at.bits (total_length (s ∷ ss)) (joined held at.word (s ∷ ss))

two_parts : (at : Place) (into part : Term) (start len : ℕ) (a b : ℤ)
    → value_at at into ≡ Some a → value_at at part ≡ Some b
    → value_at at (deposit into start len part) ≡ deposit_value at.bits start len a b
two_parts at into part start len a b e f =
    ap (option_and_then (λ x. option_and_then (deposit_value at.bits start len x) (value_at at part))) e
    ∙ ap (option_and_then (deposit_value at.bits start len a)) f

-- one more segment above others
one_more : (set : Option (List ℕ)) (at : Place) (held : List ℕ → ℤ) (s t : Segment) (ts : List Segment)
    → at.word < 2 ^ at.bits → Ready set at held (s ∷ t ∷ ts)
    → Folds at (folded at.bits set t ts) (field_word at held t ts)
    → value_at at (folded at.bits set s (t ∷ ts)) ≡ Some (pos (field_word at held s (t ∷ ts)))
one_more set at held s t ts small r f =
    let n = at.bits in
    let l = segment_length s in
    let p = total_length (t ∷ ts) in
    let b = segment_bits held at.word s in
    let j = joined held at.word (t ∷ ts) in
    let some : 1 ≤ segment_length s = All-head (λ s. 1 ≤ segment_length s) s (t ∷ ts) r.lengths in
    let more = total_more s (t ∷ ts) in
    let all = r.total in
    let total : segment_length s + total_length (t ∷ ts) ≤ at.bits = omega arith in
    let b_below = segment_bits_below held at.word s in
    let j_below = joined_below held at.word (t ∷ ts) in
    let v_is : residue n f.value ≡ field_word at held t ts = f.in_word in
    let part_is : residue n (segment_number held at.word s) ≡ as_word (has_sign s) n l b =
    word_of (has_sign s) n l b b_below (omega arith) in
    let low : residue n f.value % 2 ^ p ≡ j =
    ap (λ x. x % 2 ^ p) v_is ∙ word_low (has_sign t) n p j j_below (omega arith) in
    two_parts at (folded at.bits set t ts) (segment_term set s) p (n - p) _ _ f.is
    (first_is set at held s (t ∷ ts) small r)
    ∙ inside_word n p (n - p) _ (omega arith) (omega arith)
    ∙ ap (λ x. Some (pos (deposited (residue n f.value) p (n - p) x))) part_is
    ∙ ap (λ x. Some (pos x))
    (deposit_is (has_sign s) n l p b j (residue n f.value) some total b_below j_below (residue_below n f.value) low)
    ∙ ap (λ m. Some (pos (as_word (has_sign s) n m (joined held at.word (s ∷ t ∷ ts))))) (sym more)

alone : (held : List ℕ → ℤ) (word : ℕ) (s : Segment)
    → (total_length (s ∷ []) ≡ segment_length s) × (joined held word (s ∷ []) ≡ segment_bits held word s)
alone held word s = (omega (arith, total_more s []), omega arith)

folds : (set : Option (List ℕ)) (at : Place) (held : List ℕ → ℤ) (s : Segment) (ss : List Segment)
    → at.word < 2 ^ at.bits → Ready set at held (s ∷ ss)
    → Folds at (folded at.bits set s ss) (field_word at held s ss)
folds set at held s [] small r =
    let e = alone held at.word s in
    let total = r.total in
    let one = e.0 in
    record {
      value = segment_number held at.word s;
      is = first_is set at held s [] small r;
      in_word =
          word_of (has_sign s) at.bits (segment_length s) (segment_bits held at.word s)
          (segment_bits_below held at.word s) (omega arith)
          ∙ sym (ap₂ (as_word (has_sign s) at.bits) e.0 e.1);
    }
folds set at held s (t ∷ ts) small r =
    let ss = s ∷ t ∷ ts in
    let v = field_word at held s (t ∷ ts) in
    let below : field_word at held s (t ∷ ts) < 2 ^ at.bits =
    word_below (has_sign s) at.bits (total_length ss) (joined held at.word ss) (joined_below held at.word ss) r.total in
    record {
      value = pos v;
      is = one_more set at held s t ts small r (folds set at held t ts small (rest_ready set at held s (t ∷ ts) r));
      in_word = mod-eq_of_lt below;
    }

-- ---- a field
several : (sign : Bool) (at : Place) (e : Term) (m x : ℕ) → x < 2 ^ m → m ≤ at.bits
    → value_at at e ≡ Some (pos (as_word sign at.bits m x))
    → value_at at (cond sign (cast e) e) ≡ Some (cond sign (signed m x) (pos x))
several true at e m x h k is =
    let below = spread_below at.bits m x h k in
    let whole : spread at.bits m x % 2 ^ at.bits ≡ spread at.bits m x = mod-eq_of_lt below in
    ap (option_map (λ z. signed at.bits (residue at.bits z))) is
    ∙ ap (λ x. Some (signed at.bits x)) whole
    ∙ ap Some (signed_of_spread at.bits m x h k)
several false at e m x h k is = is

raw_is : (set : Option (List ℕ)) (at : Place) (held : List ℕ → ℤ) (ss : List Segment)
    → at.word < 2 ^ at.bits → Ready set at held ss
    → value_at at (joined_term at.bits set ss) ≡ Some (raw_value held at.word ss)
raw_is set at held [] small r = refl
raw_is set at held (s ∷ []) small r =
    let e = alone held at.word s in
    first_is set at held s [] small r
    ∙ sym (ap₂ (λ m x. Some (cond (has_sign s) (signed m x) (pos x))) e.0 e.1)
raw_is set at held (s ∷ t ∷ ts) small r =
    let ss = s ∷ t ∷ ts in
    several (has_sign s) at (folded at.bits set s (t ∷ ts)) (total_length ss) (joined held at.word ss)
    (joined_below held at.word ss) r.total
    (one_more set at held s t ts small r (folds set at held t ts small (rest_ready set at held s (t ∷ ts) r)))

applied_is : (at : Place) (name : Option (List ℕ)) (ss : List Segment) (e : Term) (raw : ℤ)
    → value_at at e ≡ Some raw → value_at at (applied_term name ss e) ≡ Some (answered at.answer name ss raw)
applied_is at None ss e raw is = is
applied_is at (Some f) [] e raw is = refl
applied_is at (Some f) (s ∷ ss) e raw is = ap (option_map (λ z. at.answer f (Some (signed 32 (residue 32 z))))) is

field_is : (set : Option (List ℕ)) (at : Place) (held : List ℕ → ℤ) (field : FieldDef)
    → at.word < 2 ^ at.bits → Ready set at held field.segments
    → value_at at (field_term at.bits set field) ≡ Some (field_value at.answer held at.word field)
field_is set at held field small r =
    applied_is at field.function field.segments (joined_term at.bits set field.segments) _
    (raw_is set at held field.segments small r)

-- ---- at a width
pub fits_helpers : (w : Width) → width_bits w ≤ helper_bits w
fits_helpers W16 = omega arith
fits_helpers W32 = omega arith
fits_helpers W64 = omega arith

wider : (m n : ℕ) → m ≤ n → (s : Segment) → segment_end s ≤ m → segment_end s ≤ n
wider m n h s inside = omega arith

pub field_law : (w : Width) (set : Option (List ℕ)) (field : FieldDef) (held : List ℕ → ℤ) (at : Place)
    → IsSoundField (width_bits w) field → at.bits ≡ helper_bits w → at.word < 2 ^ width_bits w
    → Shows set at held field.segments
    → value_at at (field_term (helper_bits w) set field) ≡ Some (field_value at.answer held at.word field)
field_law w set field held at sound e small shown =
    let fits = fits_helpers w in
    let le : width_bits w ≤ at.bits = omega arith in
    let more : 2 ^ width_bits w ≤ 2 ^ at.bits = pow_mono le in
    ap (λ n. value_at at (field_term n set field)) (sym e)
    ∙ field_is set at held field (omega arith) (record {
      within =
          All-weaker (λ s. segment_end s ≤ width_bits w) (λ s. segment_end s ≤ at.bits)
          (wider (width_bits w) at.bits le)
          field.segments sound.within;
      lengths = sound.lengths;
      shown = shown;
      total = (let t = sound.total in omega arith);
    })

pub value_law : (w : Width) (set : Option (List ℕ)) (value : FieldValue) (held : List ℕ → ℤ) (at : Place)
    → KeepsValueRules (width_bits w) value → at.bits ≡ helper_bits w → at.word < 2 ^ width_bits w
    → ShowsValue set at held value
    → value_at at (value_term (helper_bits w) set value) ≡ Some (value_of at.answer held at.word value)
value_law w set (Field field) held at sound e small shown = field_law w set field held at sound e small shown
value_law w set (Constant z) held at sound e small shown = refl
