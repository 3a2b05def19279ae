-- The bits of the word that the unnamed segments of a field take (docs/devel/decodetree.rst, "Fields").
use Rattle.std.specs.Prelude.{ℕ, ◌-◌, ◌*◌, ◌^◌, List, [], ◌∷◌, bit_or}
use Rattle.dt_fields.specs.declared.segment.Segment.{Segment}
use Rattle.dt_fields.specs.declared.segment.Segment.TheVariants.{Bits, Named}

abbrev pub segment_mask : Segment → ℕ
segment_mask (Bits pos length signed) = (2 ^ length - 1) * 2 ^ pos
segment_mask (Named name length signed) = 0

abbrev pub segments_mask : List Segment → ℕ
segments_mask [] = 0
segments_mask (s ∷ ss) = bit_or (segment_mask s) (segments_mask ss)
