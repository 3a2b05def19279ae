-- The plain expression that an expression in memory stands for.
use Rattle.std.specs.Prelude.{Option, Some, None, option_map, List, ℕ}
use Rattle.c_exprs.specs.Exprs.{Source, insn, argument, Term, constant, segment, deposit, cast, function, applied}
use Rattle.c_exprs.specs.declared.expr.Expr.{Expr, fold-Expr}
use Rattle.c_exprs.specs.declared.expr.Expr.TheOpen.{Expr-F}
use Rattle.c_exprs.specs.declared.expr.Input.{Input}
use Rattle.c_exprs.specs.declared.expr.Input.TheVariants.{Insn, Arg}

abbrev pub source_of : Input → Source
source_of Insn = insn
source_of (Arg set name) = argument set name

abbrev pub applied_to : List ℕ → Option Term → Term
applied_to name None = function name
applied_to name (Some e) = applied name e

-- one level of an expression, with each expression inside already seen as its plain one
abbrev pub term_step : Expr-F Term → Term
term_step (Expr-F.Constant z) = constant z
term_step (Expr-F.Segment signed from place length) = segment signed (source_of from) place length
term_step (Expr-F.Deposit into place length part) = deposit into.value place length part.value
term_step (Expr-F.Cast e) = cast e.value
term_step (Expr-F.Function name e) = applied_to name (option_map (λ b. b.value) e)

abbrev pub term_of : Expr → Term
term_of = fold-Expr Term term_step
