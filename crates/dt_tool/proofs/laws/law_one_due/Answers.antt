use Rattle.dt_tool.specs.Due.{gen_task}
use Rattle.dt_tool.proofs.OneDue.{gen_once, gen_some, one_due, some_due}
use Rattle.dt_tool.proofs.laws.law_one_due.Goals as goal

pub returns-clause-one : goal.returns-clause-one
returns-clause-one c = λ asked. one_due (gen_task asked) (gen_once asked)

pub returns-clause-some : goal.returns-clause-some
returns-clause-some c = λ asked. some_due (gen_task asked) (gen_some asked)
