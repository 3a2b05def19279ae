use Rattle.dt_tree.proofs.Fixing.{fixed_more}
use Rattle.dt_tree.proofs.list.fixed_by_each.Goals as goal

pub loop-entry-preserved : goal.loop-entry-preserved
loop-entry-preserved c =
    fixed_more _ _ _ _ _ _ _ _ c.loop-entry-test.true c.entry-item.is c.fixed_by.ensures c.in_ok-push.ensures.items
    c.loop-entry.invariant
