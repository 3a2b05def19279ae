use Rattle.dt_lines.proofs.Order.{lines_on_own, spans_in_order}
use Rattle.dt_lines.proofs.laws.law_token_places.Goals as goal

pub returns-clause-own_lines : goal.returns-clause-own_lines
returns-clause-own_lines c = lines_on_own

pub returns-clause-order : goal.returns-clause-order
returns-clause-order c = spans_in_order
