-- What is found behind the arguments so far is what is found among all.
use Rattle.std.proofs.Common.{◌≡◌, drop}
use Rattle.dt_values.specs.Held.{held_by}
use Rattle.dt_values.proofs.values.Values.held.Given as goal

abbrev pub invariant-loop-i : goal.invariant-loop-i
invariant-loop-i l = held_by (drop l.i l.self.members.now) (drop l.i l.self.items) l.name ≡ held_by l.self.members.now l.self.items l.name
