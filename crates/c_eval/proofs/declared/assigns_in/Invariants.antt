use Rattle.std.proofs.Common.{◌≡◌, drop, map}
use Rattle.c_subset.specs.View.{extraction_of}
use Rattle.c_eval.specs.Runs.{assigns_in}
use Rattle.c_eval.proofs.declared.assigns_in.Given as goal

abbrev pub invariant-loop-extract : goal.invariant-loop-extract
invariant-loop-extract l =
    assigns_in (map extraction_of (drop l.extract-index l.extracts)) l.format l.set
    ≡ assigns_in (map extraction_of l.extracts) l.format l.set
