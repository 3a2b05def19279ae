use Rattle.dt_tool.specs.Evaluations.{eval_task}
use Rattle.dt_tool.proofs.OneDue.{eval_once, eval_some, one_due, some_due}
use Rattle.dt_tool.proofs.laws.law_one_evaluation_due.Goals as goal

pub returns-clause-one : goal.returns-clause-one
returns-clause-one c = λ e. one_due (eval_task e) (eval_once e)

pub returns-clause-some : goal.returns-clause-some
returns-clause-some c = λ e. some_due (eval_task e) (eval_some e)
