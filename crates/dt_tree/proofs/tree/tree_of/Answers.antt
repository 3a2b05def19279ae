use Rattle.std.proofs.Common.{map}
use Rattle.dt_model.specs.Trees.{items_of}
use Rattle.dt_model.specs.View.{pattern_seen}
use Rattle.dt_tree.proofs.Building.{all_kept, have_knot, knot_shown, none_empty}
use Rattle.dt_tree.proofs.EmptyGroups.{first_is_empty, first_is_least}
use Rattle.dt_tree.proofs.Order.{order_seen}
use Rattle.dt_tree.proofs.Rising.{all_rising}
use Rattle.dt_tree.proofs.tree.tree_of.Goals as goal

pub returns-in-Some-clause-refused : goal.returns-in-Some-clause-refused
returns-in-Some-clause-refused c = λ up.
    first_is_least (map pattern_seen c.args.patterns.now) (items_of c.args.entries.now) _ _
    (order_seen _ _ up) c.first_empty.ensures c.in-Some.is

pub returns-in-Some-clause-cause : goal.returns-in-Some-clause-cause
returns-in-Some-clause-cause c = first_is_empty (items_of c.args.entries.now) _ _ c.first_empty.ensures c.in-Some.is

pub returns-in-Ok-None-clause-kept : goal.returns-in-Ok-None-clause-kept
returns-in-Ok-None-clause-kept c =
    all_kept (map pattern_seen c.args.patterns.now) (items_of c.args.entries.now) _
    (none_empty (items_of c.args.entries.now) _ c.first_empty.ensures c.in_default.is) c.in-Ok-None.ensures
    c.in-Ok-None.field-0-is

pub returns-in-Ok-Some-clause-refused : goal.returns-in-Ok-Some-clause-refused
returns-in-Ok-Some-clause-refused c = λ up.
    rw c.of.ensures
    (knot_shown (map pattern_seen c.args.patterns.now) (items_of c.args.entries.now) _ _
    (none_empty (items_of c.args.entries.now) _ c.first_empty.ensures c.in_default.is) c.in-Ok-Some.ensures
    c.in-Ok-Some.field-0-is
    (all_rising _ _ (order_seen _ _ up)))

pub returns-in-Ok-Some-clause-cause : goal.returns-in-Ok-Some-clause-cause
returns-in-Ok-Some-clause-cause c =
    have_knot (map pattern_seen c.args.patterns.now) (items_of c.args.entries.now) _ _
    (none_empty (items_of c.args.entries.now) _ c.first_empty.ensures c.in_default.is) c.in-Ok-Some.ensures
    c.in-Ok-Some.field-0-is
