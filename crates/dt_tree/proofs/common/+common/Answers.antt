use Rattle.dt_tree.proofs.Commons.{common_more}
use Rattle.dt_tree.proofs.common.+common.Goals as goal

pub fixed_below-loop-entry-preserved : goal.fixed_below-loop-entry-preserved
fixed_below-loop-entry-preserved t c =
    common_more _ _ _ _ _ _ c.loop-entry-test.true c.entry-item.is
    (c.fixed_by_both_lists-common.ensures _ _ c.loop-entry.invariant c.fixed_in.ensures)
