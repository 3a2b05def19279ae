use Rattle.std.proofs.Common.{◌∙◌, ◌++◌, ap, map}
use Rattle.dt_lines.specs.Gathering.{gathered_line, lines_after, placed_line}
use Rattle.dt_lines.proofs.Continuing.{goes_on, without_last_line}
use Rattle.dt_lines.proofs.gather.end_or_go_on.Goals as goal

pub returns-then-ends_in_backslash-clause-lines : goal.returns-then-ends_in_backslash-clause-lines
returns-then-ends_in_backslash-clause-lines c = λ number texts.
    ap (λ lines. map (placed_line c.args.bytes.now) c.args.lines.now.items ++ lines)
    (ap (λ line. lines_after line number texts) (without_last_line c.args.bytes.now c.args.gathered c.without_last.result c.without_last.ensures.line c.without_last.ensures.indent c.without_last.ensures.tokens)
    ∙ goes_on (gathered_line c.args.bytes.now c.args.gathered) number texts (cc))

pub returns-clause-file : goal.returns-clause-file
returns-clause-file c = c.in_ok-end_line.ensures.file _ c.requires.spans c.requires.file
