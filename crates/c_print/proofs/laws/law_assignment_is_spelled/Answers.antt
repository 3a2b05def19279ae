use Rattle.c_print.proofs.ExprTokens.{assignment_tokens}
use Rattle.c_print.proofs.laws.law_assignment_is_spelled.Goals as goal

pub returns : goal.returns
returns c = assignment_tokens
