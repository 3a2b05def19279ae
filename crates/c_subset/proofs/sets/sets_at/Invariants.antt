use Rattle.std.proofs.Common.{length}
use Rattle.c_subset.specs.SetParsing.{starts_set, set_at}
use Rattle.c_tokens.proofs.Loops.{Reading}
use Rattle.c_subset.proofs.sets.sets_at.Given as goal

abbrev pub invariant-more : goal.invariant-more
invariant-more l = Reading starts_set set_at l.initial.tokens l.sets.items l.tokens

abbrev pub decreases-more : goal.decreases-more
decreases-more l = length l.tokens
