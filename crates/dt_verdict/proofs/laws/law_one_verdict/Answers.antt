use Rattle.dt_verdict.proofs.OneVerdict.{one_verdict, some_verdict}
use Rattle.dt_verdict.proofs.laws.law_one_verdict.Goals as goal

pub returns-clause-one : goal.returns-clause-one
returns-clause-one c = one_verdict

pub returns-clause-some : goal.returns-clause-some
returns-clause-some c = some_verdict
