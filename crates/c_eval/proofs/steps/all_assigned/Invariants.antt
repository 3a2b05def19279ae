use Rattle.std.proofs.Common.{◌≡◌, drop, map}
use Rattle.c_subset.specs.View.{assignment_of}
use Rattle.c_eval.specs.LiveSet.{held_in}
use Rattle.c_eval.specs.Meaning.{helper_bits}
use Rattle.c_eval.specs.Runs.{all_assigned}
use Rattle.c_eval.proofs.steps.all_assigned.Given as goal

abbrev pub invariant-loop-name : goal.invariant-loop-name
invariant-loop-name g l = record {
  set : l.live.set ≡ l.fn.live.set;
  same : all_assigned (helper_bits l.width) l.word ((g.H.Host.host l.host).answer (g.H.Host.state l.host)) l.members
      (map assignment_of (drop l.name-index l.assigns)) (held_in l.members l.live.items l.live.held)
      ≡ all_assigned (helper_bits l.width) l.word ((g.H.Host.host l.host).answer (g.H.Host.state l.host)) l.members
      (map assignment_of l.assigns) (held_in l.members l.fn.live.items l.fn.live.held);
}
