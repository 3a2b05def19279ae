use Rattle.std.proofs.Common.{take}
use Rattle.std.specs.Prelude.{flat_map}
use Rattle.dt_text.specs.Puts.{Puts}
use Rattle.c_subset.specs.View.{program_of}
use Rattle.dt_tool.specs.RunTexts as said
use Rattle.dt_tool.specs.View.{call_seen}
use Rattle.dt_tool.proofs.run_text.write_calls.Given as goal

abbrev pub invariant-loop-call : goal.invariant-loop-call
invariant-loop-call g l =
    Puts (g.W.Out.state l.initial.out) (g.W.Out.state l.out)
    (flat_map (λ call. said.call_line (program_of l.program) (call_seen call)) (take l.call-index l.calls))
