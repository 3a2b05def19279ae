use Rattle.std.proofs.Common.{length, map}
use Rattle.c_tokens.proofs.Loops.{Reading}
use Rattle.c_subset.specs.DeclarationViews.{function_seen}
use Rattle.c_subset.specs.ExtractParsing.{starts_function, function_at}
use Rattle.c_subset.proofs.extracts.functions_at.Given as goal

abbrev pub invariant-more : goal.invariant-more
invariant-more l =
    Reading starts_function function_at l.initial.tokens (map function_seen l.functions.items) l.tokens

abbrev pub decreases-more : goal.decreases-more
decreases-more l = length l.tokens
