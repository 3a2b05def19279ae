-- The test of fields tells exactly those that are the same.
use Rattle.std.proofs.Common.{◌≡◌, ℕ, ◌==◌, ◌&&◌, Bool, true, false, List, Option, Some, None, refl, ap, ap₂, ◌∙◌, sym, arith}
use Rattle.std.specs.Cmp.Lexicographic.{pointwise}
use Rattle.std.specs.Bool.{Decides}
use Rattle.std.proofs.lemmas.Bool.{and_parts, eqb-true}
use Rattle.std.proofs.lemmas.Bool.Decides.{nat_tests}
use Rattle.std.proofs.lemmas.Slice.Eq.{slice_eq-Decides}
use Rattle.dt_values.specs.Types.{is_text}
use Rattle.dt_fields.specs.declared.field.FieldDef.{FieldDef}
use Rattle.dt_fields.specs.declared.segment.Segment.{Segment}
use Rattle.dt_fields.specs.declared.segment.Segment.TheVariants.{Bits, Named}
use Rattle.dt_patterns.specs.Inference.{same_field, same_function, same_segment, same_sign}
use Rattle.dt_patterns.proofs.SameNames.{text_decides}

both : (a b : Bool) → a ≡ true → b ≡ true → (a && b) ≡ true
both a b h k = ap (λ x. x && b) h ∙ k

number_same : (n m : ℕ) → n ≡ m → (n == m) ≡ true
number_same n m h = grind (arith, nat_tests)

sign_to : (a b : Bool) → same_sign a b ≡ true → a ≡ b
sign_to true true h = refl
sign_to false false h = refl
sign_to true false h = absurd (cc)
sign_to false true h = absurd (cc)

sign_from : (a b : Bool) → a ≡ b → same_sign a b ≡ true
sign_from true true h = refl
sign_from false false h = refl
sign_from true false h = absurd (cc)
sign_from false true h = absurd (cc)

segment_to : (s t : Segment) → same_segment s t ≡ true → s ≡ t
segment_to (Bits p l a) (Bits q m b) h =
    let first = and_parts (p == q) ((l == m) && same_sign a b) h in
    let second = and_parts (l == m) (same_sign a b) first.1 in
    let place : p ≡ q = eqb-true p q first.0 in
    let length : l ≡ m = eqb-true l m second.0 in
    let sign : a ≡ b = sign_to a b second.1 in
    cc
segment_to (Bits p l a) (Named n m b) h = absurd (cc)
segment_to (Named n l a) (Bits q m b) h = absurd (cc)
segment_to (Named n l a) (Named o m b) h =
    let first = and_parts (is_text n o) ((l == m) && same_sign a b) h in
    let second = and_parts (l == m) (same_sign a b) first.1 in
    let name : n ≡ o = (text_decides n o).0 first.0 in
    let length : l ≡ m = eqb-true l m second.0 in
    let sign : a ≡ b = sign_to a b second.1 in
    cc

segment_refl : (s : Segment) → same_segment s s ≡ true
segment_refl (Bits p l a) =
    both (p == p) ((l == l) && same_sign a a) (number_same p p refl)
    (both (l == l) (same_sign a a) (number_same l l refl) (sign_from a a refl))
segment_refl (Named n l a) =
    both (is_text n n) ((l == l) && same_sign a a) ((text_decides n n).1 refl)
    (both (l == l) (same_sign a a) (number_same l l refl) (sign_from a a refl))

segment_decides : (s t : Segment) → Decides (same_segment s t) (s ≡ t)
segment_decides s t = (segment_to s t, λ e. ap (same_segment s) (sym e) ∙ segment_refl s)

segments_decide : (ss ts : List Segment) → Decides (pointwise same_segment ss ts) (ss ≡ ts)
segments_decide ss ts = slice_eq-Decides segment_decides ss ts (pointwise same_segment ss ts) refl

function_to : (a b : Option (List ℕ)) → same_function a b ≡ true → a ≡ b
function_to None None h = refl
function_to None (Some name) h = absurd (cc)
function_to (Some name) None h = absurd (cc)
function_to (Some name) (Some other) h = ap Some ((text_decides name other).0 h)

function_refl : (a : Option (List ℕ)) → same_function a a ≡ true
function_refl None = refl
function_refl (Some name) = (text_decides name name).1 refl

abbrev with_parts : List Segment → Option (List ℕ) → FieldDef
with_parts segments function = record { segments = segments; function = function }

field_to : (f g : FieldDef) → same_field f g ≡ true → f ≡ g
field_to f g h =
    let parts = and_parts (pointwise same_segment f.segments g.segments) (same_function f.function g.function) h in
    let segments : f.segments ≡ g.segments = (segments_decide f.segments g.segments).0 parts.0 in
    ap₂ with_parts segments (function_to f.function g.function parts.1)

field_refl : (f : FieldDef) → same_field f f ≡ true
field_refl f =
    both (pointwise same_segment f.segments f.segments) (same_function f.function f.function)
    ((segments_decide f.segments f.segments).1 refl) (function_refl f.function)

pub field_decides : (f g : FieldDef) → Decides (same_field f g) (f ≡ g)
field_decides f g = (field_to f g, λ e. ap (same_field f) (sym e) ∙ field_refl f)
