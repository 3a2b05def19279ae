-- Segments of fields (docs/devel/decodetree.rst, "Fields").
use Rattle.std.specs.Prelude.{ℕ, ◌+◌, Bool, false, List, [], ◌∷◌, ◌&&◌, ◌||◌, nat_lt}
use Rattle.std.specs.List.{list_any, sum_by}
use Rattle.dt_fields.specs.declared.segment.Segment.{Segment}
use Rattle.dt_fields.specs.declared.segment.Segment.TheVariants.{Bits, Named}

-- how many bits a segment has
abbrev pub segment_length : Segment → ℕ
segment_length (Bits pos length signed) = length
segment_length (Named name length signed) = length

-- how many bits a word must have for the segment: a named one takes the low bits of a value
abbrev pub segment_end : Segment → ℕ
segment_end (Bits pos length signed) = pos + length
segment_end (Named name length signed) = length

-- two unnamed segments share a bit: each begins below the other's end
abbrev pub share_bit : Segment → Segment → Bool
share_bit (Bits pos length s) (Bits pos2 length2 s2) = nat_lt pos (pos2 + length2) && nat_lt pos2 (pos + length)
share_bit (Bits pos length s) (Named name2 length2 s2) = false
share_bit (Named name length s) other = false

-- some two of them do
abbrev pub has_overlap : List Segment → Bool
has_overlap [] = false
has_overlap (s ∷ ss) = list_any (share_bit s) ss || has_overlap ss

abbrev pub total_length : List Segment → ℕ
total_length segments = sum_by segment_length segments
