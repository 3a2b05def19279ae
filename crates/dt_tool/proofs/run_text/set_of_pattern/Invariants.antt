use Rattle.std.proofs.Common.{◌≡◌, drop, map}
use Rattle.c_subset.specs.View.{pattern_of}
use Rattle.dt_tool.specs.RunTexts.{pattern_named}
use Rattle.dt_tool.proofs.run_text.set_of_pattern.Given as goal

abbrev pub invariant-loop-pattern : goal.invariant-loop-pattern
invariant-loop-pattern l =
    pattern_named (map pattern_of (drop l.pattern-index l.patterns)) l.name
    ≡ pattern_named (map pattern_of l.patterns) l.name
