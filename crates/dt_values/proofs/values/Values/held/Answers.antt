-- One more argument has another name.
use Rattle.std.proofs.Common.{◌≡◌, ◌<◌, ◌∙◌, length, rules, arith}
use Rattle.dt_values.proofs.ArgumentItems.{held_after}
use Rattle.dt_values.proofs.values.Values.held.Goals as goal

pub loop-i-preserved : goal.loop-i-preserved
loop-i-preserved c =
    let vs = c.args.self.now in
    let few = vs.few in
    let long : length vs.items ≡ 32 = search rules in
    let within : c.loop-i.i < length vs.members.now = omega arith in
    let inside : c.loop-i.i < length vs.items = omega arith in
    held_after vs.members.now vs.items c.args.name c.loop-i.i c.member-item.result within inside c.member-item.is (search rules) ∙ c.loop-i.invariant
