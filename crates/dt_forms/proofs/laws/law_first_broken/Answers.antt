use Rattle.dt_forms.proofs.BrokenFiles.{lines_break_first, file_breaks_first}
use Rattle.dt_forms.proofs.laws.law_first_broken.Goals as goal

pub returns-clause-lines : goal.returns-clause-lines
returns-clause-lines c = lines_break_first

pub returns-clause-file : goal.returns-clause-file
returns-clause-file c = file_breaks_first
