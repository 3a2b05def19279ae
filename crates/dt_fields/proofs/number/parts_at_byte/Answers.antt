use Rattle.dt_fields.proofs.Parts.{parts_at}
use Rattle.dt_fields.proofs.number.parts_at_byte.Goals as goal

pub returns : goal.returns
returns c = parts_at c.args.mark c.args.text.now _ _ _ c.in_ok-at.at c.in_ok-at.ensures.place c.split_at.ensures.front c.split_at.ensures.back c.split_at-2.ensures.back
