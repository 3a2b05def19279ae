use Rattle.std.proofs.Common.{ℕ, List, length, sym, subst}
use Rattle.std.specs.List.{All, AllPairs}
use Rattle.dt_lines.specs.Spans.{AreSpans}
use Rattle.dt_lines.specs.declared.line.Logical.{Logical}
use Rattle.dt_forms.specs.Positions.{IsLineBefore}
use Rattle.dt_forms.proofs.LinesByNumber.{source_in_order}
use Rattle.dt_forms.proofs.reader.opening_detail.Goals as goal

pub span_of_line-requires-clause-in_order : goal.span_of_line-requires-clause-in_order
span_of_line-requires-clause-in_order c =
    subst (λ (ls : List Logical). AllPairs IsLineBefore ls) (sym c.items-2.ensures)
    (source_in_order c.args.file c.args.source.now c.requires.source)

pub span_of_line-requires-clause-spans : goal.span_of_line-requires-clause-spans
span_of_line-requires-clause-spans c =
    let P : List ℕ → List Logical → Type 0 = λ bs ls. All (λ l. AreSpans (length bs) l.tokens) ls in
    subst (P c.items.result.now) (sym c.items-2.ensures)
    (subst (λ (bs : List ℕ). P bs c.args.source.now.lines) (sym c.items.ensures) c.requires.source.spans)
