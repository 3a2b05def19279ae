-- The text is too deep where its rest is, with the braces that are open in front of it.
use Rattle.std.proofs.Common.{◌≤◌, length}
use Rattle.c_tokens.proofs.Deep.{SameDepth}
use Rattle.c_tokens.proofs.depth.is_too_deep.Given as goal

abbrev pub invariant-loop-rest : goal.invariant-loop-rest
invariant-loop-rest l =
    record {
      same : SameDepth l.braces l.rest l.text;
      few : l.braces ≤ 129;
    }

abbrev pub decreases-loop-rest : goal.decreases-loop-rest
decreases-loop-rest l = length l.rest
