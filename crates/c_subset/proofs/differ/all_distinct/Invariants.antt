use Rattle.std.proofs.Common.{take}
use Rattle.std.specs.List.{All}
use Rattle.c_subset.specs.Distinct.{HasDistinctArguments}
use Rattle.c_subset.proofs.differ.all_distinct.Given as goal

abbrev pub invariant-loop-set : goal.invariant-loop-set
invariant-loop-set l = All HasDistinctArguments (take l.set-index l.sets)
