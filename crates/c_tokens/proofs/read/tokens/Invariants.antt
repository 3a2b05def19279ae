-- The tokens that were found, and then those of the rest, are those of the text.
use Rattle.std.proofs.Common.{length}
use Rattle.c_tokens.specs.View.{tokens_seen}
use Rattle.c_tokens.proofs.Found.{IsFound}
use Rattle.c_tokens.proofs.read.tokens.Given as goal

abbrev pub invariant-loop-rest : goal.invariant-loop-rest
invariant-loop-rest l = IsFound l.text (tokens_seen l.found.items) l.rest

abbrev pub decreases-loop-rest : goal.decreases-loop-rest
decreases-loop-rest l = length l.rest
