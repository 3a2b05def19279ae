-- Numbers that a reader cuts off, where no rule tells them apart. The limit is this project's.
use Rattle.std.specs.Prelude.{◌≡◌, ℕ, ◌==◌, nat_lt}
use Rattle.dt_values.specs.declared.width.Width.{Width}
use Rattle.dt_values.specs.Widths.{width_bits}
use Rattle.dt_fields.specs.declared.segment.Segment.{Segment}
use Rattle.dt_fields.specs.Segments.{segment_length, segment_end}

-- a segment's end and its length, as far as the rules of segments look at them
pub record IsCut (width : Width) (s : Segment) (end bits : ℕ) : Type 0 where
  pub no_length : (segment_length s == 0) ≡ (bits == 0)
  pub too_large : nat_lt (width_bits width) (segment_end s) ≡ nat_lt (width_bits width) end
