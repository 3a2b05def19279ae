use Rattle.dt_words.proofs.AnswerParts.{first_part}
use Rattle.dt_words.proofs.script.first_part.Goals as goal

pub returns : goal.returns
returns c = first_part c.args.text.now c.split_once.result c.split_once.ensures.cases
