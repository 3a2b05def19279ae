-- What is asked of values: of a field's segments, or of a constant.
use Rattle.std.specs.Prelude.{ℕ, ◌≤◌, List, ℤ, Option, All, length}
use Rattle.dt_fields.specs.Segments.{total_length}
use Rattle.dt_fields.specs.SoundFields.{IsSoundField}
use Rattle.dt_fields.specs.declared.field.FieldDef.{FieldDef}
use Rattle.dt_fields.specs.declared.segment.Segment.{Segment}
use Rattle.dt_fields.specs.declared.segment.TheConstants.{MOST_SEGMENTS}
use Rattle.dt_model.specs.declared.value.FieldValue.{FieldValue}
use Rattle.dt_model.specs.declared.value.FieldValue.TheVariants.{Field, Constant}
use Rattle.c_exprs.specs.Forms.{ConstantFits, SourceNamed}
use Rattle.c_eval.specs.Meaning.{Place}
use Rattle.c_fields.specs.Written.{source_of, Shows}

-- what holds of a field, and of a constant
abbrev pub OfValue : (FieldDef → Type 0) → (ℤ → Type 0) → FieldValue → Type 0
OfValue P Q (Field field) = P field
OfValue P Q (Constant z) = Q z

-- a field that keeps its rules, or a constant of 64 bits with a sign
abbrev pub KeepsValueRules : ℕ → FieldValue → Type 0
KeepsValueRules width = OfValue (IsSoundField width) ConstantFits

-- the arguments that segments name, and their set, are names
abbrev pub AreNamed : Option (List ℕ) → List Segment → Type 0
AreNamed set segments = All (λ s. SourceNamed (source_of set s)) segments

abbrev pub IsValueNamed : Option (List ℕ) → FieldValue → Type 0
IsValueNamed set = OfValue (λ field. AreNamed set field.segments) (λ z. Unit {0})

-- the arguments that a value names hold these values, where it is evaluated
abbrev pub ShowsValue : Option (List ℕ) → Place → (List ℕ → ℤ) → FieldValue → Type 0
ShowsValue set at held = OfValue (λ field. Shows set at held field.segments) (λ z. Unit {0})

-- helpers of so many bits have room for segments, of which there are no more than there may be
pub record HaveRoom (bits : ℕ) (segments : List Segment) : Type 0 where
  pub few : length segments ≤ MOST_SEGMENTS
  pub total : total_length segments ≤ bits

abbrev pub HasRoom : ℕ → FieldValue → Type 0
HasRoom bits = OfValue (λ field. HaveRoom bits field.segments) (λ z. Unit {0})
