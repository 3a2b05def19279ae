-- Fields whose bits lie in a word of 64 bits, as those of every line that breaks no rule do.
use Rattle.std.specs.Prelude.{◌≤◌, List, All}
use Rattle.dt_fields.specs.Segments.{segment_end}
use Rattle.dt_fields.specs.Tables.{FieldTable}
use Rattle.dt_fields.specs.declared.field.FieldDef.{FieldDef}
use Rattle.dt_model.specs.Patterns.{GivenValues}
use Rattle.dt_model.specs.declared.format.Format.{Format}
use Rattle.dt_model.specs.declared.value.FieldValue.{FieldValue}
use Rattle.dt_model.specs.declared.value.FieldValue.TheVariants.{Field, Constant}

abbrev pub FieldFits : FieldDef → Type 0
FieldFits field = All (λ s. segment_end s ≤ 64) field.segments

abbrev pub ValueFits : FieldValue → Type 0
ValueFits (Field field) = FieldFits field
ValueFits (Constant z) = Unit {0}

abbrev pub FieldsFit : FieldTable → Type 0
FieldsFit fields = All (λ f. FieldFits f.1) fields

abbrev pub ValuesFit : GivenValues → Type 0
ValuesFit values = All (λ v. ValueFits v.1) values

abbrev pub FormatsFit : List Format → Type 0
FormatsFit formats = All (λ f. ValuesFit f.values) formats
