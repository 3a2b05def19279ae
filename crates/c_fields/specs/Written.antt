-- The expression that the C text has for a field, and what it is assigned to (docs/C_SUBSET.md, "Expressions").
use Rattle.std.specs.Prelude.{◌≡◌, ℕ, ◌-◌, List, [], ◌∷◌, ℤ, pos, Option, Some, None, All, if◌then◌else◌}
use Rattle.dt_fields.specs.Segments.{segment_length, total_length}
use Rattle.dt_fields.specs.declared.field.FieldDef.{FieldDef}
use Rattle.dt_fields.specs.declared.segment.Segment.{Segment}
use Rattle.dt_fields.specs.declared.segment.Segment.TheVariants.{Bits, Named}
use Rattle.dt_model.specs.declared.value.FieldValue.{FieldValue}
use Rattle.dt_model.specs.declared.value.FieldValue.TheVariants.{Field, Constant}
use Rattle.c_exprs.specs.Exprs.{Source, insn, argument, Term, constant, segment, deposit, cast, function, applied}
use Rattle.c_exprs.specs.Exprs.{Assignment}
use Rattle.dt_match.specs.FieldValues.{has_sign}
use Rattle.c_eval.specs.Meaning.{Place}

-- where a segment's bits come from, and from which bit up
abbrev pub source_of : Option (List ℕ) → Segment → Source
source_of set (Bits place length signed) = insn
source_of set (Named name length signed) = argument set name

abbrev pub place_of : Segment → ℕ
place_of (Bits place length signed) = place
place_of (Named name length signed) = 0

-- extractN(insn, place, length), or of an argument
abbrev pub segment_term : Option (List ℕ) → Segment → Term
segment_term set s = segment (has_sign s) (source_of set s) (place_of s) (segment_length s)

-- from the last to the first: each is deposited above all that follow it
abbrev pub folded : ℕ → Option (List ℕ) → Segment → List Segment → Term
folded n set s [] = segment_term set s
folded n set s (t ∷ ts) =
    deposit (folded n set t ts) (total_length (t ∷ ts)) (n - total_length (t ∷ ts)) (segment_term set s)

-- (intN_t) where the first of several is signed
abbrev pub several_term : ℕ → Option (List ℕ) → Segment → List Segment → Term
several_term n set s ss = if has_sign s then cast (folded n set s ss) else folded n set s ss

abbrev pub joined_term : ℕ → Option (List ℕ) → List Segment → Term
joined_term n set [] = constant (pos 0)
joined_term n set (s ∷ []) = segment_term set s
joined_term n set (s ∷ t ∷ ts) = several_term n set s (t ∷ ts)

-- NAME(ctx, EXPR), or NAME(ctx) without segments
abbrev pub applied_term : Option (List ℕ) → List Segment → Term → Term
applied_term None segments e = e
applied_term (Some name) [] e = function name
applied_term (Some name) (s ∷ ss) e = applied name e

-- helpers of n bits; the set is named in the decoder alone
abbrev pub field_term : ℕ → Option (List ℕ) → FieldDef → Term
field_term n set field = applied_term field.function field.segments (joined_term n set field.segments)

abbrev pub value_term : ℕ → Option (List ℕ) → FieldValue → Term
value_term n set (Field field) = field_term n set field
value_term n set (Constant z) = constant z

-- what is assigned to an argument
abbrev pub assignment_of : ℕ → Option (List ℕ) → List ℕ × FieldValue → Assignment
assignment_of n set v = record { argument = v.0; value = value_term n set v.1 }

-- the arguments that segments name hold these values, where the expression is evaluated
abbrev pub IsShown : Option (List ℕ) → Place → (List ℕ → ℤ) → Segment → Type 0
IsShown set at held (Bits place length signed) = Unit {0}
IsShown set at held (Named name length signed) = at.held set name ≡ Some (held name)

abbrev pub Shows : Option (List ℕ) → Place → (List ℕ → ℤ) → List Segment → Type 0
Shows set at held segments = All (IsShown set at held) segments
