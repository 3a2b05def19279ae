use Rattle.std.proofs.Common.{ℕ, List, length, subst, sym}
use Rattle.std.specs.List.{All}
use Rattle.dt_lines.specs.Spans.{AreSpans}
use Rattle.dt_lines.specs.declared.line.Logical.{Logical}
use Rattle.dt_forms.proofs.OpenGroups.{openings_after}
use Rattle.dt_forms.proofs.reader.read_file.Goals as goal

pub read_lines-requires-clause-lines : goal.read_lines-requires-clause-lines
read_lines-requires-clause-lines c =
    let P : List ℕ → List Logical → Type 0 = λ bs ls. All (λ l. AreSpans (length bs) l.tokens) ls in
    subst (P c.items.result.now) (sym c.items-2.ensures)
    (subst (λ (bs : List ℕ). P bs c.args.source.now.lines) (sym c.items.ensures) c.requires.source.spans)

pub check_closed-requires-clause-found : goal.check_closed-requires-clause-found
check_closed-requires-clause-found c =
    openings_after c.args.options.now c.args.file c.args.source.now c.items.result.now c.items-2.result.now
    c.args.scope.now c.read_lines.new.scope c.requires.source c.items.ensures c.items-2.ensures c.requires.closed
    c.in-Ok.ensures.after
