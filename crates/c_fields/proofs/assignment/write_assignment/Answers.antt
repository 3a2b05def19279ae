use Rattle.std.proofs.Common.{rules}
use Rattle.dt_text.proofs.Putting.{puts_more}
use Rattle.c_fields.proofs.assignment.write_assignment.Goals as goal

pub returns : goal.returns
returns g c = search (rules, puts_more)
