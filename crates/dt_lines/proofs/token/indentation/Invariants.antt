use Rattle.std.proofs.Common.{◌≡◌, ◌*◌, ◌≤◌, drop}
use Rattle.dt_lines.specs.Lines.{indentation, column_from}
use Rattle.dt_lines.proofs.token.indentation.Given as goal

abbrev pub invariant-loop-byte : goal.invariant-loop-byte
invariant-loop-byte l = record {
  column : column_from l.column (drop l.byte-index l.text) ≡ indentation l.text;
  bound : l.column ≤ 8 * l.byte-index;
}
