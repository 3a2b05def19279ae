use Rattle.std.proofs.Common.{◌≡◌, ◌<◌, ℕ, false, get_or}
use Rattle.dt_values.specs.declared.set.SetDef.{SetDef}
use Rattle.dt_patterns.specs.Inference.{has_exactly}
use Rattle.dt_patterns.proofs.infer.first_match.Given as goal

abbrev pub invariant-loop-place : goal.invariant-loop-place
invariant-loop-place l = (d : SetDef) (k : ℕ) → k < l.place → has_exactly l.values (get_or l.sets k d) ≡ false
