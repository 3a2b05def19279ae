-- What is left of the expression is no deeper than it was.
use Rattle.std.proofs.Common.{◌≤◌}
use Rattle.c_exprs.specs.declared.expr.Expr.{size-Expr}
use Rattle.c_exprs.proofs.expr.Expr.+drop.Given as goal

abbrev pub invariant-loop-self : goal.invariant-loop-self
invariant-loop-self l = size-Expr l.self ≤ size-Expr l.fn.self
