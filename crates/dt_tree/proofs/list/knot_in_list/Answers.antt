use Rattle.std.proofs.Common.{ap, sym, ◌∙◌, subst, ℕ, List, ◌<◌, length, map}
use Rattle.std.specs.Prelude.{All}
use Rattle.dt_model.specs.View.{pattern_seen}
use Rattle.dt_model.specs.Trees.{items_of}
use Rattle.dt_tree.specs.Entries.{position_in}
use Rattle.dt_tree.proofs.Fixing.{list_parted, list_first, members_inside, answer_none, answer_some}
use Rattle.dt_tree.proofs.list.knot_in_list.Goals as goal

pub returns-in_default : goal.returns-in_default
returns-in_default c = λ filled.
    list_parted _ _ _ c.in_ok-fixed.ensures (answer_none _ _ _ c.as_slice.ensures.value c.in_default.is
    c.in_ok-members.ensures) filled

pub positions_in-requires : goal.positions_in-requires
positions_in-requires c =
    subst (λ (ms : List ℕ). All (λ j. j < length c.args.entries.now) ms) (sym c.as_slice-2.ensures.value)
    (members_inside (map pattern_seen c.args.patterns.now) _ _ _ c.in_ok-fixed.ensures
    (answer_some _ _ _ _ c.as_slice.ensures.value c.in-Some.is c.in_ok-members.ensures))

pub returns : goal.returns
returns c = λ filled.
    list_first _ _ _ c.in-Some.members.items _ c.in_ok-fixed.ensures
    (answer_some _ _ _ _ c.as_slice.ensures.value c.in-Some.is c.in_ok-members.ensures)
    (c.in_ok-positions_in.ensures ∙ ap (map (position_in (map pattern_seen c.args.patterns.now)
    (items_of c.args.entries.now))) c.as_slice-2.ensures.value) filled
