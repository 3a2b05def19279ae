use Rattle.std.proofs.Common.{map}
use Rattle.dt_model.specs.View.{pattern_seen}
use Rattle.dt_tree.specs.Commons.{AreFixedSoFar}
use Rattle.dt_tree.specs.Splits.{fixed_seen}
use Rattle.dt_tree.proofs.list.fixed_by_each.Given as goal

abbrev pub invariant-loop-entry : goal.invariant-loop-entry
invariant-loop-entry l = AreFixedSoFar (map pattern_seen l.patterns) l.entries l.entry-index
    (map fixed_seen l.all.items)
