use Rattle.std.proofs.Common.{◌≡◌, drop}
use Rattle.c_eval.specs.LiveSet.{held_in}
use Rattle.c_eval.proofs.live.Live.held.Given as goal

abbrev pub invariant-loop-i : goal.invariant-loop-i
invariant-loop-i l =
    held_in (drop l.i l.members) (drop l.i l.self.items) (drop l.i l.self.held) l.name ≡ held_in l.members l.self.items
    l.self.held l.name
