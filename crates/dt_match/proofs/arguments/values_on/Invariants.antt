-- What arguments hold where references go through so many others at most.
use Rattle.std.proofs.Common.{◌≡◌, ◌++◌}
use Rattle.dt_match.specs.Arguments.{held_at}
use Rattle.dt_host.specs.Calls.{AreItems}
use Rattle.dt_match.proofs.arguments.values_on.Given as goal

abbrev pub invariant-loop-level : goal.invariant-loop-level
invariant-loop-level g l = record {
  members : l.values.members.now ≡ l.members;
  items : AreItems (held_at ((g.H.Host.host l.host).answer (g.H.Host.state l.host)) l.word l.members
      (l.kept ++ l.own) l._level) l.members l.values.items;
}
