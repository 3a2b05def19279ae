use Rattle.std.proofs.Common.{◌≡◌, ◌+◌, ◌-◌, ◌≤◌, length}
use Rattle.dt_lines.specs.Lines.{placed_lines}
use Rattle.dt_lines.specs.SoFar.{AreSpansTo, AreLinesOf}
use Rattle.dt_lines.specs.Gathering.{all_lines, reading}
use Rattle.dt_lines.proofs.Pieces.{lines_left}
use Rattle.dt_lines.proofs.scan.read_lines.Given as goal

abbrev pub invariant-loop-at : goal.invariant-loop-at
invariant-loop-at l = record {
  lines : all_lines (reading l.bytes l.lines.items l.gathered) (l.line + 1) (lines_left l.at l.bytes) ≡ placed_lines l.bytes;
  file : AreLinesOf l.file (length l.bytes) l.lines.items;
  spans : AreSpansTo (length l.bytes) l.at l.gathered.tokens.items;
  number : l.line ≤ l.at;
  place : l.at ≤ length l.bytes + 1;
}

abbrev pub decreases-loop-at : goal.decreases-loop-at
decreases-loop-at l = length l.bytes + 1 - l.at
