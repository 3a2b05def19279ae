use Rattle.std.proofs.Common.{rules}
use Rattle.dt_text.proofs.Putting.{puts_flat}
use Rattle.dt_tool.proofs.run_text.write_calls.Goals as goal

pub loop-call-preserved : goal.loop-call-preserved
loop-call-preserved g c = search (rules, puts_flat)
