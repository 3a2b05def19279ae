-- What a sound field is: one whose line breaks no rule (docs/devel/decodetree.rst, "Fields"). The limits are this
-- project's.
use Rattle.std.specs.Prelude.{ℕ, ◌≡◌, ◌≢◌, ◌≤◌, ◌⊎◌, false, [], length, All, IfSome, IsSome}
use Rattle.dt_fields.specs.declared.field.FieldDef.{FieldDef}
use Rattle.dt_fields.specs.declared.segment.TheConstants.{MOST_SEGMENTS}
use Rattle.dt_fields.specs.CNames.{IsCName}
use Rattle.dt_fields.specs.Segments.{has_overlap, segment_end, segment_length, total_length}

-- in words of so many bits: the segments lie in the word, each has a bit, and no two share one; there are no more of
-- them, and no more bits, than there may be; there is a segment or a function; and a function's name is a C name
pub record IsSoundField (width : ℕ) (field : FieldDef) : Type 0 where
  pub within : All (λ s. segment_end s ≤ width) field.segments
  pub lengths : All (λ s. 1 ≤ segment_length s) field.segments
  pub few : length field.segments ≤ MOST_SEGMENTS
  pub total : total_length field.segments ≤ width
  pub some_value : (field.segments ≢ []) ⊎ IsSome field.function
  pub apart : has_overlap field.segments ≡ false
  pub c_name : IfSome field.function IsCName
