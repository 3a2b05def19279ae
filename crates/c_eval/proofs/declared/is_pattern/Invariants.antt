use Rattle.std.proofs.Common.{◌≡◌, drop, map}
use Rattle.c_subset.specs.View.{pattern_of}
use Rattle.c_eval.specs.Lists.{is_pattern_in}
use Rattle.c_eval.proofs.declared.is_pattern.Given as goal

abbrev pub invariant-loop-pattern : goal.invariant-loop-pattern
invariant-loop-pattern l =
    is_pattern_in (map pattern_of (drop l.pattern-index l.patterns)) l.name l.set
    ≡ is_pattern_in (map pattern_of l.patterns) l.name l.set
