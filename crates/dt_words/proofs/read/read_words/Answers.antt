-- The place of a number follows from the command.
use Rattle.std.proofs.Common.{rules}
use Rattle.dt_words.specs.Commands as meant
use Rattle.dt_words.specs.View.{Answers, texts}
use Rattle.dt_words.proofs.NumberPlaces.{placed_answer}
use Rattle.dt_words.proofs.read.read_words.Goals as goal

pub returns-in-Some-verb_of-clause-placed : goal.returns-in-Some-verb_of-clause-placed
returns-in-Some-verb_of-clause-placed c =
    let answer : Answers c.command_with.result (meant.command_of (texts c.args.words.now)) = search rules in
    placed_answer (texts c.args.words.now) c.command_with.result answer
