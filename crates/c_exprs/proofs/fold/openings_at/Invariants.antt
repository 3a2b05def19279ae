-- What the loop read is as many openings as it counted.
use Rattle.std.proofs.Common.{length, replicate}
use Rattle.c_tokens.specs.Parsing.{begins}
use Rattle.c_tokens.proofs.Loops.{Reading}
use Rattle.c_exprs.specs.ExprParsing.{deposit_open, opening_at}
use Rattle.c_exprs.proofs.fold.openings_at.Given as goal

abbrev pub invariant-more : goal.invariant-more
invariant-more l =
    Reading (begins (deposit_open l.width)) (opening_at l.width) l.initial.tokens (replicate l.openings tt) l.tokens

abbrev pub decreases-more : goal.decreases-more
decreases-more l = length l.tokens
