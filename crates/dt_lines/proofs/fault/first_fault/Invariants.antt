use Rattle.std.proofs.Common.{◌≡◌, ◌+◌, ◌-◌, ◌≤◌, length}
use Rattle.dt_lines.specs.Faults.{line_fault}
use Rattle.dt_lines.proofs.LongNames.{fault_left}
use Rattle.dt_lines.proofs.fault.first_fault.Given as goal

abbrev pub invariant-loop-at : goal.invariant-loop-at
invariant-loop-at l = record {
  fault : fault_left (l.line + 1) l.at l.bytes ≡ line_fault l.bytes;
  number : l.line ≤ l.at;
  place : l.at ≤ length l.bytes + 1;
}

abbrev pub decreases-loop-at : goal.decreases-loop-at
decreases-loop-at l = length l.bytes + 1 - l.at
