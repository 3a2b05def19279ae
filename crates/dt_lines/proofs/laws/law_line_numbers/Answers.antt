use Rattle.dt_lines.proofs.Numbers.{line_numbers_rise, line_numbers_from_to}
use Rattle.dt_lines.proofs.laws.law_line_numbers.Goals as goal

pub returns-clause-rise : goal.returns-clause-rise
returns-clause-rise c = line_numbers_rise

pub returns-clause-from_to : goal.returns-clause-from_to
returns-clause-from_to c = line_numbers_from_to
