-- Fields that lie in a word of 64 bits.
use Rattle.std.proofs.Common.{◌≡◌, ℕ, ◌≤◌, List, [], ◌∷◌, ◌++◌, IsTrue, Ok, Err, OnOk, OnErr, subst, sym, arith}
use Rattle.std.specs.Prelude.{Result}
use Rattle.std.proofs.lemmas.List.Elements.{All-push, All-weaker}
use Rattle.dt_values.specs.Widths.{width_bits}
use Rattle.dt_values.specs.declared.width.Width.{Width}
use Rattle.dt_fields.specs.FieldLines.{begins_field, field_line_faults, line_field}
use Rattle.dt_fields.specs.Segments.{segment_end}
use Rattle.dt_fields.specs.SoundFields.{IsSoundField}
use Rattle.dt_fields.specs.Tables.{FieldTable}
use Rattle.dt_fields.specs.declared.field.FieldDef.{FieldDef}
use Rattle.dt_fields.specs.declared.fault.DefFault.{DefFault}
use Rattle.dt_fields.proofs.KeptFields.{unbroken_field_is_sound}
use Rattle.dt_scope.specs.Fitting.{FieldFits, FieldsFit, ValueFits, ValuesFit}
use Rattle.dt_model.specs.Patterns.{GivenValues}
use Rattle.dt_model.specs.declared.value.FieldValue.{FieldValue}
use Rattle.dt_scope.proofs.Widths.{width_bound}

-- those of a line that breaks no rule do
sound_fits : (width : Width) (field : FieldDef) → IsSoundField (width_bits width) field → FieldFits field
sound_fits width field h =
    let most : width_bits width ≤ 64 = width_bound width in
    All-weaker (λ s. segment_end s ≤ width_bits width) (λ s. segment_end s ≤ 64)
    (λ s below. omega arith) field.segments h.within

pub line_fits : (width : Width) (fields : FieldTable) (tokens : List (List ℕ)) → IsTrue (begins_field tokens)
    → FieldsFit fields → field_line_faults (width_bits width) fields tokens ≡ []
    → FieldsFit (fields ++ line_field tokens ∷ [])
line_fits width fields tokens begins fit none =
    All-push (λ f. FieldFits f.1) fields (line_field tokens) fit
    (sound_fits width (line_field tokens).1 (unbroken_field_is_sound (width_bits width) fields tokens begins none))

pub values_more : (values : GivenValues) (v : List ℕ × FieldValue) → ValuesFit values → ValueFits v.1
    → ValuesFit (values ++ v ∷ [])
values_more values v fit fits = All-push (λ v. ValueFits v.1) values v fit fits

-- what a reader of a field line leaves of its table
pub fit_after : (r : Result Unit DefFault) (width : Width) (old new : FieldTable) (tokens : List (List ℕ))
    → IsTrue (begins_field tokens)
    → OnOk r (new ≡ old ++ line_field tokens ∷ []) → OnOk r (field_line_faults (width_bits width) old tokens ≡ [])
    → OnErr r (new ≡ old)
    → FieldsFit old → FieldsFit new
fit_after (Ok x) width old new tokens begins added kept same fit =
    subst FieldsFit (sym added) (line_fits width old tokens begins fit kept)
fit_after (Err fault) width old new tokens begins added kept same fit = subst FieldsFit (sym same) fit
