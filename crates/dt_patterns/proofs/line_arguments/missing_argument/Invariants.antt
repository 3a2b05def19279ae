use Rattle.std.proofs.Common.{◌≡◌, drop}
use Rattle.dt_patterns.specs.LineArguments.{missing_argument}
use Rattle.dt_patterns.proofs.line_arguments.missing_argument.Given as goal

abbrev pub invariant-loop-member : goal.invariant-loop-member
invariant-loop-member l = missing_argument l.base l.values (drop l.member-index l.members)
    ≡ missing_argument l.base l.values l.members
