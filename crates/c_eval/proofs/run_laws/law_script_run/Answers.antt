-- From what a script's own law says of it.
use Rattle.c_eval.proofs.ScriptedRuns.{fresh_kept, script_run}
use Rattle.c_eval.proofs.run_laws.law_script_run.Goals as goal

pub returns-clause-run : goal.returns-clause-run
returns-clause-run c program outside word k is =
    script_run c.args.script.now c.law_script.ensures.alike c.law_script.ensures.calls program outside word k is

pub returns-clause-kept : goal.returns-clause-kept
returns-clause-kept c program outside word empty unused room =
    fresh_kept c.args.script.now c.law_script.ensures.alike c.law_script.ensures.calls program outside word empty unused
    room
