use Rattle.std.proofs.Common.{◌≡◌, ◌≤◌, ◌*◌, take}
use Rattle.dt_fields.specs.Segments.{total_length}
use Rattle.dt_fields.proofs.segment.total_length.Given as goal

abbrev pub invariant-loop-segment : goal.invariant-loop-segment
invariant-loop-segment l = record {
  sum : l.total ≡ total_length (take l.segment-index l.segments);
  small : l.total ≤ 255 * l.segment-index;
}
