use Rattle.std.proofs.Common.{◌∙◌, sym, ap}
use Rattle.dt_lines.specs.Lines.{is_backslash}
use Rattle.dt_lines.proofs.Continuing.{ends_seen}
use Rattle.dt_lines.proofs.gather.ends_in_backslash.Goals as goal

pub returns-in-Some : goal.returns-in-Some
returns-in-Some c = c.is_backslash.ensures ∙ ap is_backslash c.text.ensures ∙ sym (ends_seen c.args.bytes.now c.args.spans.now c.in-Some.field-0-1.now c.in-Some.last.now c.in-Some.ensures.cases.0)
