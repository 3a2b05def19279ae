use Rattle.std.proofs.Common.{◌≡◌, ◌<◌, ◌∙◌, ℕ, length, get_or, pos, false, Some, ap, sym, arith, rules}
use mir.Syntax.{w128}
use mir.Val.{SFits, to_z, of_z}
use Rattle.dt_values.specs.Stored.{stored}
use Rattle.std.proofs.lemmas.Int.{to_z-of_z}
use Rattle.c_eval.specs.LiveSet.{unless_lost}
use Rattle.c_eval.proofs.Slots.{held_more, held_here}
use Rattle.c_eval.proofs.live.Live.held.Goals as goal

pub returns-then-self-i : goal.returns-then-self-i
returns-then-self-i c =
    let l = c.args.self.now in
    let i = c.loop-i.i in
    let few = c.requires in
    let ms = c.args.members.now in
    let long : length l.items ≡ 32 = search rules in
    let bits : length l.held ≡ 32 = search rules in
    let inside : i < length ms = omega arith in
    let at_items : i < length l.items = omega arith in
    let at_held : i < length l.held = omega arith in
    let m = c.index-members-i.result in
    let z = get_or l.items i (pos 0) in
    let fits : SFits w128 c.store.result = search rules in
    let number_fits : SFits w128 z = search rules in
    ap (λ x. Some x) (to_z-of_z w128 c.store.result fits ∙ c.store.ensures
    ∙ ap (stored m.ctype) (to_z-of_z w128 z number_fits))
    ∙ ap (λ b. unless_lost b (stored m.ctype z)) (sym c.if-self-i.true)
    ∙ held_here ms l.items l.held c.args.name i m inside at_items at_held c.index-members-i.is (search rules)
    ∙ c.loop-i.invariant

pub loop-i-preserved : goal.loop-i-preserved
loop-i-preserved c =
    let l = c.args.self.now in
    let i = c.loop-i.i in
    let few = c.requires in
    let ms = c.args.members.now in
    let long : length l.items ≡ 32 = search rules in
    let bits : length l.held ≡ 32 = search rules in
    let inside : i < length ms = omega arith in
    let at_items : i < length l.items = omega arith in
    let at_held : i < length l.held = omega arith in
    held_more ms l.items l.held c.args.name i c.index-members-i.result inside at_items at_held c.index-members-i.is
    (search rules)
    ∙ c.loop-i.invariant
