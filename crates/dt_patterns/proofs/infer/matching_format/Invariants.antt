use Rattle.std.proofs.Common.{◌≡◌, ◌<◌, ℕ, false, get_or}
use Rattle.dt_values.specs.Widths.{width_bits}
use Rattle.dt_model.specs.declared.format.Format.{Format}
use Rattle.dt_patterns.specs.Inference.{fits_pattern}
use Rattle.dt_patterns.proofs.infer.matching_format.Given as goal

abbrev pub invariant-loop-place : goal.invariant-loop-place
invariant-loop-place l = (d : Format) (k : ℕ) → k < l.place
    → fits_pattern (width_bits l.width) l.set l.values (get_or l.formats k d) ≡ false
