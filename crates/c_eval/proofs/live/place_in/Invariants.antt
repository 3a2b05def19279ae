use Rattle.std.proofs.Common.{◌≡◌, ◌+◌, drop, option_map}
use Rattle.c_eval.specs.LiveSet.{place_in}
use Rattle.c_eval.proofs.live.place_in.Given as goal

abbrev pub invariant-loop-i : goal.invariant-loop-i
invariant-loop-i l = option_map (λ k. l.i + k) (place_in (drop l.i l.members) l.name) ≡ place_in l.members l.name
