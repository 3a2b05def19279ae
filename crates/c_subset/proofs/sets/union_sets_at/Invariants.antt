use Rattle.std.proofs.Common.{length}
use Rattle.c_subset.specs.SetParsing.{is_inside, union_set_at}
use Rattle.c_tokens.proofs.Loops.{Reading}
use Rattle.c_subset.proofs.sets.union_sets_at.Given as goal

abbrev pub invariant-more : goal.invariant-more
invariant-more l = Reading is_inside union_set_at l.initial.tokens l.sets.items l.tokens

abbrev pub decreases-more : goal.decreases-more
decreases-more l = length l.tokens
