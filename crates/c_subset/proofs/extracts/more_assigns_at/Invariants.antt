use Rattle.std.proofs.Common.{length, map}
use Rattle.c_tokens.proofs.Loops.{Reading}
use Rattle.c_exprs.specs.ExprParsing.{assignment_at}
use Rattle.c_subset.specs.View.{assignment_of}
use Rattle.c_subset.specs.SetParsing.{is_inside}
use Rattle.c_subset.proofs.extracts.more_assigns_at.Given as goal

abbrev pub invariant-more : goal.invariant-more
invariant-more l =
    Reading is_inside (assignment_at l.width) l.initial.tokens (map assignment_of l.assigns.items) l.tokens

abbrev pub decreases-more : goal.decreases-more
decreases-more l = length l.tokens
