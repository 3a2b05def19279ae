-- One is lost, or none.
use Rattle.std.proofs.Common.{◌≡◌, ◌≤◌, ◌∙◌, length, take, Some, ap, sym, arith, rules}
use Rattle.c_eval.proofs.Slots.{handed_none, handed_all}
use Rattle.c_eval.proofs.live.Live.handed.Goals as goal

pub returns-then-not-self-i : goal.returns-then-not-self-i
returns-then-not-self-i c =
    let l = c.args.self.now in
    let ms = c.args.members.now in
    let few = c.requires.few in
    let long : length l.items ≡ 32 = search rules in
    let bits : length l.held ≡ 32 = search rules in
    let at_items : length ms ≤ length l.items = omega arith in
    let at_held : length ms ≤ length l.held = omega arith in
    sym (handed_none ms l.items l.held c.requires.differ at_items at_held c.loop-i.i c.loop-i-test.true
    c.if-not-self-i.true)

pub returns : goal.returns
returns c =
    let l = c.args.self.now in
    let ms = c.args.members.now in
    let vs = c.stored.result in
    let few = c.requires.few in
    let long : length l.items ≡ 32 = search rules in
    let bits : length l.held ≡ 32 = search rules in
    let out = c.stored.ensures.long in
    let at_items : length ms ≤ length l.items = omega arith in
    let at_held : length ms ≤ length l.held = omega arith in
    let at_out : length ms ≤ length vs.items = omega arith in
    let past : length ms ≤ c.loop-i.i = search rules in
    ap (λ xs. Some (take (length xs) vs.items)) c.stored.ensures.members
    ∙ sym (handed_all ms l.items l.held c.requires.differ at_items at_held vs.items at_out c.stored.ensures.items
    (λ k h. c.loop-i.invariant k (omega arith)))
