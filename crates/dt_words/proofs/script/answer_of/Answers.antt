-- Where a fifth part follows there is no answer.
use Rattle.std.proofs.Common.{sym, ◌∙◌}
use Rattle.dt_words.proofs.AnswerParts.{with_fifth}
use Rattle.dt_words.proofs.script.answer_of.Goals as goal

pub returns-then-is_some : goal.returns-then-is_some
returns-then-is_some c =
    with_fifth c.args.text.now c.in_ok-calls.calls.now c.in_ok-calls.rest.now c.in_ok-function.function.now
    c.in_ok-function.rest.now c.in_ok-arg.arg.now c.in_ok-arg.answer.now c.first_part-4.result
    c.in_ok-calls.ensures c.in_ok-function.ensures c.in_ok-arg.ensures c.first_part-4.ensures
    (sym c.is_some.ensures ∙ c.if-is_some.true)
