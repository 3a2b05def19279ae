-- No statement runs twice.
use Rattle.c_eval.proofs.RunSteps.{calls_within, tests_within}
use Rattle.c_eval.proofs.run_laws.law_calls_within.Goals as goal

pub returns-clause-calls : goal.returns-clause-calls
returns-clause-calls g c program outside host word state = calls_within host program outside word state

pub returns-clause-tests : goal.returns-clause-tests
returns-clause-tests g c program outside host word state = tests_within host program outside word state
