use Rattle.std.proofs.Common.{◌*◌, ◌+◌, take, map}
use Rattle.dt_model.specs.View.{pattern_seen}
use Rattle.dt_model.specs.Trees.{items_of, numbers_of}
use Rattle.dt_tree.specs.Entries.{pattern_at}
use Rattle.dt_tree.specs.Commons.{IsCommonOf}
use Rattle.dt_tree.proofs.common.+common.Given as goal

abbrev pub decreases-fixed_in : goal.decreases-fixed_in
decreases-fixed_in l = 2 * goal.size-fixed_in l

abbrev pub decreases-fixed_below : goal.decreases-fixed_below
decreases-fixed_below l = 2 * goal.size-fixed_below l + 1

abbrev pub invariant-fixed_below-loop-entry : goal.invariant-fixed_below-loop-entry
invariant-fixed_below-loop-entry l = IsCommonOf l.common
    (map (pattern_at (map pattern_seen l.patterns)) (numbers_of (items_of (take l.entry-index l.entries))))
