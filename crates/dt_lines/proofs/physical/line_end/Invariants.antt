use Rattle.std.proofs.Common.{◌≡◌, false}
use Rattle.std.specs.Prelude.{All}
use Rattle.std.specs.List.{between}
use Rattle.dt_lines.specs.Lines.{is_newline}
use Rattle.dt_lines.proofs.physical.line_end.Given as goal

abbrev pub invariant-loop-end : goal.invariant-loop-end
invariant-loop-end l = All (λ b. is_newline b ≡ false) (between l.at l.end l.bytes)
