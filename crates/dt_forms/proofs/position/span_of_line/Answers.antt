use Rattle.std.proofs.Common.{List, length, map, ap, ◌∙◌, sym, subst, rules}
use Rattle.std.specs.Prelude.{All}
use Rattle.std.proofs.lemmas.List.Sorted.{answers_always}
use Rattle.dt_lines.specs.Spans.{IsWithin, text_at}
use Rattle.dt_lines.specs.declared.line.Span.{Span}
use Rattle.dt_forms.specs.Positions.{IsSpanOf, leading_token}
use Rattle.dt_forms.proofs.LinesByNumber.{token_found, no_token_found}
use Rattle.dt_forms.proofs.position.span_of_line.Goals as goal

pub leading_span-requires : goal.leading_span-requires
leading_span-requires c =
    let at = c.requires.spans c.in-Ok.at c.index-lines-at.result c.in-Ok.ensures.bound in
    subst (λ (ts : List Span). All (IsWithin (length c.args.bytes.now)) ts) (sym c.items.ensures) at.within

pub returns-in-Ok : goal.returns-in-Ok
returns-in-Ok c =
    let by_key = c.in-Ok.ensures.position (λ l. l.line) (answers_always _ _ _ (λ f a r g called. search rules)) in
    subst (IsSpanOf c.args.bytes.now c.leading_span.result)
    (ap (λ (ts : List Span). leading_token (map (text_at c.args.bytes.now) ts)) c.items.ensures
    ∙ token_found c.args.bytes.now c.args.lines.now c.args.number c.in-Ok.at c.index-lines-at.result c.requires.in_order
    c.in-Ok.ensures.bound by_key)
    c.leading_span.ensures

pub returns-in-Err : goal.returns-in-Err
returns-in-Err c =
    let by_key = c.in-Err.ensures.position (λ l. l.line) (answers_always _ _ _ (λ f a r g called. search rules)) in
    no_token_found c.args.bytes.now c.args.lines.now c.args.number c.in-Err.field-0 c.requires.in_order by_key
