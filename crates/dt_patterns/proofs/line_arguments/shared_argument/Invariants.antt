use Rattle.std.proofs.Common.{◌≡◌, drop}
use Rattle.dt_patterns.specs.LineArguments.{shared_argument}
use Rattle.dt_patterns.proofs.line_arguments.shared_argument.Given as goal

abbrev pub invariant-loop-value : goal.invariant-loop-value
invariant-loop-value l = shared_argument l.base (drop l.value-index l.values) ≡ shared_argument l.base l.values
