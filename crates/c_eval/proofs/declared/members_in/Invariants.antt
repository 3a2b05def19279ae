use Rattle.std.proofs.Common.{◌≡◌, drop}
use Rattle.c_eval.specs.Lists.{members_at}
use Rattle.c_eval.proofs.declared.members_in.Given as goal

abbrev pub invariant-loop-set : goal.invariant-loop-set
invariant-loop-set l = members_at (drop l.set-index l.sets) l.name ≡ members_at l.sets l.name
