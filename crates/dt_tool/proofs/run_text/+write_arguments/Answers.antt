use Rattle.std.proofs.Common.{rules}
use Rattle.dt_text.specs.Puts.{Puts}
use Rattle.dt_tool.specs.RunTexts.{argument_text}
use Rattle.dt_tool.proofs.RunLines.{arguments_more}
use Rattle.dt_tool.proofs.run_text.+write_arguments.Goals as goal

pub returns : goal.returns
returns g t c =
    let first : Puts (g.W.Out.state c.args.out.now) (g.W.Out.state c.write_argument.new.out)
    (argument_text (c.in-Some.member.now, c.in-Some-split_first.value.now)) = search rules in
    arguments_more c.args.members.now c.args.values.now c.in-Some.member.now c.in-Some.members.now
    c.in-Some-split_first.value.now c.in-Some-split_first.values.now c.in-Some.ensures.cases.0
    c.in-Some-split_first.ensures.cases.0 first c.write_arguments.ensures
