use Rattle.dt_lines.proofs.Numbers.{length-physical_lines}
use Rattle.dt_lines.proofs.laws.law_lines_within_bytes.Goals as goal

pub returns : goal.returns
returns c = length-physical_lines
