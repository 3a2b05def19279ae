use Rattle.std.proofs.Common.{List, [], ◌∷◌, length, map}
use Rattle.c_subset.specs.View.{pattern_of, prefix_seen}
use Rattle.c_subset.specs.PatternParsing.{starts_pattern, pattern_at}
use Rattle.c_subset.proofs.ReadLoops.{ReadingBehind}
use Rattle.c_subset.proofs.patterns.patterns_behind.Given as goal

abbrev pub invariant-more : goal.invariant-more
invariant-more l =
    ReadingBehind (pattern_of l.fn.first ∷ []) starts_pattern (pattern_at (prefix_seen l.prefix)) l.initial.tokens
    (map pattern_of l.patterns.items) l.tokens

abbrev pub decreases-more : goal.decreases-more
decreases-more l = length l.tokens
