-- Zeros at first, and then one level of references more.
use Rattle.std.proofs.Common.{◌≡◌, ◌<◌, ◌≤◌, ◌++◌, length, arith}
use Rattle.std.proofs.lemmas.Bool.Decides.{Decides-int_eq}
use Rattle.std.proofs.lemmas.List.{length-append}
use Rattle.std.proofs.lemmas.Slice.Eq.{slice_eq-Decides}
use Rattle.dt_match.proofs.HeldItems.{last_level, level_more, zero_items}
use Rattle.dt_match.proofs.arguments.values_on.Goals as goal

pub loop-level-init : goal.loop-level-init
loop-level-init g c =
    let few = c.requires.arguments.few in
    let long = c.zeros-values.ensures.long in
    let within : length c.args.members.now ≤ length c.zeros-values.result.items = omega arith in
    record {
      members = c.zeros-values.ensures.members;
      items = zero_items c.args.members.now c.zeros-values.result.items within c.zeros-values.ensures.items;
    }

pub loop-level-preserved : goal.loop-level-preserved
loop-level-preserved g c =
    let answer = (g.H.Host.host c.args.host.now).answer (g.H.Host.state c.args.host.now) in
    let held = c.loop-level.values in
    record {
      members = c.next_values-next.ensures.members;
      items = level_more answer c.args.word c.args.members.now
          (c.args.kept.now ++ c.args.own.now) c.requires.arguments c.loop-level._level held.members.now held.items
          c.next_values-next.result.items
          c.loop-level.invariant.members c.loop-level.invariant.items c.next_values-next.ensures.items;
    }

pub returns-then-is_same-clause-items : goal.returns-then-is_same-clause-items
returns-then-is_same-clause-items g c =
    let answer = (g.H.Host.host c.args.host.now).answer (g.H.Host.state c.args.host.now) in
    let held = c.loop-level.values in
    let unchanged : c.next_values-next.result.items ≡ held.items =
    (slice_eq-Decides Decides-int_eq _ _ _ c.is_same.ensures).0 c.if-is_same.true in
    let more = c.loop-level-test.true in
    let both = length-append c.args.kept.now c.args.own.now in
    let below : c.loop-level._level < length (c.args.kept.now ++ c.args.own.now) = omega arith in
    last_level answer c.args.word c.args.members.now
    (c.args.kept.now ++ c.args.own.now) c.requires.arguments c.loop-level._level held.members.now held.items
    c.next_values-next.result.items
    c.loop-level.invariant.members c.loop-level.invariant.items c.next_values-next.ensures.items unchanged below
