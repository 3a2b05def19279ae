use Rattle.c_eval.proofs.Slots.{lost_all}
use Rattle.c_eval.proofs.live.Live.lost.Goals as goal

pub returns-clause-held : goal.returns-clause-held
returns-clause-held c ms = lost_all ms _ 32
