use Rattle.std.proofs.Common.{◌≡◌, drop, map}
use Rattle.std.specs.Prelude.{find, nat_eq, not}
use Rattle.std.specs.Cmp.Lexicographic.{pointwise}
use Rattle.std.specs.HashSet.{contains}
use Rattle.dt_tool.proofs.evaluate.first_not_in.Given as goal

abbrev pub invariant-loop-set : goal.invariant-loop-set
invariant-loop-set l =
    find (λ set. not (contains (pointwise nat_eq) l.names set)) (map (λ p. p.1) (drop l.set-index l.patterns))
    ≡ find (λ set. not (contains (pointwise nat_eq) l.names set)) (map (λ p. p.1) l.patterns)
