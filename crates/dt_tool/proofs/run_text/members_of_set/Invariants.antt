use Rattle.std.proofs.Common.{◌≡◌, drop}
use Rattle.c_eval.specs.Lists.{members_at}
use Rattle.dt_tool.proofs.run_text.members_of_set.Given as goal

abbrev pub invariant-loop-set : goal.invariant-loop-set
invariant-loop-set l = members_at (drop l.set-index l.sets) l.name ≡ members_at l.sets l.name
