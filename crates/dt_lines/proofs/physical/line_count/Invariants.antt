use Rattle.std.proofs.Common.{◌≡◌, ◌+◌, ◌-◌, ◌≤◌, length, drop}
use Rattle.dt_lines.specs.Lines.{physical_lines}
use Rattle.dt_lines.proofs.physical.line_count.Given as goal

abbrev pub invariant-loop-at : goal.invariant-loop-at
invariant-loop-at l = record {
  count : l.count + length (physical_lines (drop l.at l.bytes)) ≡ length (physical_lines l.bytes);
  number : l.count ≤ l.at;
  place : l.at ≤ length l.bytes + 1;
}

abbrev pub decreases-loop-at : goal.decreases-loop-at
decreases-loop-at l = length l.bytes + 1 - l.at
