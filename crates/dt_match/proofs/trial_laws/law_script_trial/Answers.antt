-- From what a script's own law says of it.
use Rattle.dt_match.proofs.ScriptTrials.{script_trial}
use Rattle.dt_match.proofs.trial_laws.law_script_trial.Goals as goal

pub returns : goal.returns
returns c ps word k is = script_trial c.args.script.now c.law_script.ensures.alike c.law_script.ensures.calls ps word k
    is
