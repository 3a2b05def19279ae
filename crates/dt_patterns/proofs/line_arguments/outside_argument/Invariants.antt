use Rattle.std.proofs.Common.{◌≡◌, drop}
use Rattle.dt_patterns.specs.LineArguments.{outside_argument}
use Rattle.dt_patterns.proofs.line_arguments.outside_argument.Given as goal

abbrev pub invariant-loop-value : goal.invariant-loop-value
invariant-loop-value l = outside_argument (drop l.value-index l.values) l.members ≡ outside_argument l.values l.members
