use Rattle.std.proofs.Common.{◌≡◌, ℕ, List, [], ◌++◌, flat_map, map, ap, subst, ◌∙◌}
use Rattle.dt_text.specs.Puts.{Puts}
use Rattle.dt_text.proofs.Putting.{puts_more}
use Rattle.dt_host.specs.Scripts.{ScriptMemory, kept_call, plain_script}
use Rattle.dt_host.specs.declared.script.Call.{Call}
use Rattle.c_subset.specs.Programs.{Program}
use Rattle.c_subset.specs.View.{program_of}
use Rattle.c_eval.specs.Runs.{Run, run_of}
use Rattle.c_eval.specs.Turns.{ended_seen}
use Rattle.c_eval.proofs.SetsRun.{sets_run}
use Rattle.dt_tool.specs.RunTexts.{call_line, end_lines}
use Rattle.dt_tool.specs.View.{call_seen}
use Rattle.dt_tool.proofs.RunLines.{run_written}
use Rattle.dt_tool.proofs.run_text.write_run.Goals as goal

pub run_decode-ran-requires-clause-sets : goal.run_decode-ran-requires-clause-sets
run_decode-ran-requires-clause-sets g c = sets_run (program_of c.args.program.now) c.requires.rules

pub returns : goal.returns
returns g c =
    let p : Program = program_of c.args.program.now in
    let plain : Run ℕ = run_of p [] (plain_script c.args.script.now) c.args.word 0 in
    let is = c.law_script_run.ensures.run p [] c.args.word 0 c.requires.fresh.1 in
    let calls : c.calls.result.now ≡ map kept_call plain.calls =
    c.calls.ensures ∙ ap (λ (s : ScriptMemory). s.calls) c.run_decode-ran.ensures.state
    ∙ c.law_script_run.ensures.kept p [] c.args.word c.requires.fresh.0 c.requires.fresh.1 c.requires.room in
    let ended = ended_seen c.run_decode-ran.result.ended in
    let tests : ℕ = c.run_decode-ran.result.tests in
    subst (λ (text : List ℕ). Puts (g.W.Out.state c.args.out.now) (g.W.Out.state c.write_end.new.out) text)
    (ap (λ (cs : List Call). flat_map (λ k. call_line p (call_seen k)) cs ++ end_lines ended tests) calls
    ∙ run_written p plain ended tests (c.run_decode-ran.ensures.ended ∙ is.ended)
    (c.run_decode-ran.ensures.tests c.requires.few ∙ is.tests))
    (puts_more c.write_calls.ensures c.write_end.ensures)
