use Rattle.std.proofs.Common.{refl}
use Rattle.dt_lines.proofs.SoFar.{line_pushed}
use Rattle.dt_lines.proofs.gather.end_line.Goals as goal

pub returns-clause-file : goal.returns-clause-file
returns-clause-file c = λ length spans lines. line_pushed _ c.in_ok-push.ensures.items refl (rw c.of.ensures spans) lines
