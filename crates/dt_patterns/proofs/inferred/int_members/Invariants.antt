use Rattle.std.proofs.Common.{◌≡◌, ◌++◌, drop, map}
use Rattle.dt_patterns.specs.Inference.{int_member}
use Rattle.dt_patterns.proofs.inferred.int_members.Given as goal

abbrev pub invariant-loop-value : goal.invariant-loop-value
invariant-loop-value l = l.members.items ++ map int_member (drop l.value-index l.values) ≡ map int_member l.values
