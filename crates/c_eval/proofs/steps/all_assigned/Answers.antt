use Rattle.std.proofs.Common.{◌≡◌, ◌≤◌, ◌∙◌, None, Some, length, sym, rules}
use Rattle.c_eval.specs.LiveSet.{held_in}
use Rattle.c_eval.specs.Meaning.{helper_bits}
use Rattle.c_eval.proofs.Assigning.{one_assigned, none_left}
use Rattle.c_eval.proofs.steps.all_assigned.Goals as goal

pub returns-in-None-clause-held : goal.returns-in-None-clause-held
returns-in-None-clause-held g c =
    let answer = (g.H.Host.host c.args.host.now).answer (g.H.Host.state c.args.host.now) in
    let live = c.loop-name.live in
    let ms = c.args.members.now in
    sym (one_assigned (helper_bits c.args.width) c.args.word answer ms c.args.assigns.now c.loop-name.name-index
    (held_in ms live.items live.held) c.loop-name-item.result None c.loop-name-test.true c.loop-name-item.is
    c.in-None.ensures.held)
    ∙ c.loop-name.invariant.same

pub loop-name-preserved : goal.loop-name-preserved
loop-name-preserved g c =
    let answer = (g.H.Host.host c.args.host.now).answer (g.H.Host.state c.args.host.now) in
    let live = c.loop-name.live in
    let next = c.in-Some.next in
    let ms = c.args.members.now in
    record {
      set = c.in-Some.ensures.set ∙ c.loop-name.invariant.set;
      same =
          sym (one_assigned (helper_bits c.args.width) c.args.word answer ms c.args.assigns.now c.loop-name.name-index
          (held_in ms live.items live.held) c.loop-name-item.result (Some (held_in ms next.items next.held))
          c.loop-name-test.true c.loop-name-item.is c.in-Some.ensures.held)
          ∙ c.loop-name.invariant.same;
    }

pub returns-clause-held : goal.returns-clause-held
returns-clause-held g c =
    let answer = (g.H.Host.host c.args.host.now).answer (g.H.Host.state c.args.host.now) in
    let live = c.loop-name.live in
    let ms = c.args.members.now in
    let past : length c.args.assigns.now ≤ c.loop-name.name-index = search rules in
    sym (none_left (helper_bits c.args.width) c.args.word answer ms c.args.assigns.now c.loop-name.name-index
    (held_in ms live.items live.held) past)
    ∙ c.loop-name.invariant.same
