use Rattle.dt_forms.proofs.HeadTokens.{marked_behind}
use Rattle.dt_forms.proofs.head.named_head.Goals as goal

pub returns-in-Some-split_first : goal.returns-in-Some-split_first
returns-in-Some-split_first c =
    marked_behind c.args.text.now c.in-Some-split_first.mark.now c.in-Some-split_first.name.now c.marked_head.result
    c.in-Some-split_first.ensures.cases.0 c.in_default.ensures c.marked_head.ensures
