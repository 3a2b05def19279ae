-- The deposits that are left, around what was made so far, are all deposits around the first part.
use Rattle.std.proofs.Common.{◌≡◌}
use Rattle.c_tokens.specs.Parsing.{made}
use Rattle.c_exprs.specs.View.{term_of}
use Rattle.c_exprs.specs.ExprParsing.{placed_at, times, deposited}
use Rattle.c_exprs.proofs.fold.deposits_at.Given as goal

abbrev pub invariant-more : goal.invariant-more
invariant-more l =
    made (deposited (term_of l.whole)) (times l.left (placed_at l.in_decoder l.width)) l.tokens
    ≡ made (deposited (term_of l.fn.first)) (times l.count (placed_at l.in_decoder l.width)) l.initial.tokens

abbrev pub decreases-more : goal.decreases-more
decreases-more l = l.left
