use Rattle.std.proofs.Common.{length, subst, sym}
use Rattle.dt_lines.specs.Spans.{AreSpans}
use Rattle.dt_lines.specs.declared.line.Logical.{Logical}
use Rattle.dt_forms.proofs.reader.read_lines.Goals as goal

pub read_line-requires-clause-spans : goal.read_line-requires-clause-spans
read_line-requires-clause-spans c =
    let P : Logical → Type 0 = λ l. AreSpans (length c.args.source.now) l.tokens in
    subst P (sym c.line-item.is) (c.requires.lines c.loop-line.line-index c.line-item.result c.loop-line-test.true)
