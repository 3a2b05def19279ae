use Rattle.dt_forms.proofs.LinesByNumber.{lines_in_order, spans_of_lines}
use Rattle.dt_forms.proofs.position.first_token.Goals as goal

pub token_of_line-requires-clause-in_order : goal.token_of_line-requires-clause-in_order
token_of_line-requires-clause-in_order c =
    lines_in_order c.args.sources.now c.args.position.file c.in-Some.source.now c.items-in-Some.result.now c.requires
    c.in-Some.ensures.lookup.3.0 c.in-Some.ensures.lookup.1 c.items-in-Some.ensures

pub token_of_line-requires-clause-spans : goal.token_of_line-requires-clause-spans
token_of_line-requires-clause-spans c =
    spans_of_lines c.args.sources.now c.args.position.file c.in-Some.source.now c.items.result.now
    c.items-in-Some.result.now c.requires c.in-Some.ensures.lookup.3.0 c.in-Some.ensures.lookup.1 c.items.ensures
    c.items-in-Some.ensures
