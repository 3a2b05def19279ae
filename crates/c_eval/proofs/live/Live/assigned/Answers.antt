use Rattle.std.proofs.Common.{◌≡◌, ◌≤◌, ◌<◌, ◌*◌, ◌∙◌, ℕ, length, ap, sym, refl, arith, rules, option_map, Some, None}
use Rattle.std.proofs.Common.{Fits, w64, true}
use Rattle.std.specs.Prelude.{slice_get, slice_set, unwrap_or}
use mir.Syntax.{w128}
use mir.Val.{SFits, to_z, of_z}
use Rattle.std.proofs.lemmas.Int.{to_z-of_z}
use Rattle.std.proofs.lemmas.Option.{slice_get_read}
use Rattle.dt_values.specs.Stored.{stored}
use Rattle.c_eval.specs.Runs.{put}
use Rattle.c_eval.specs.LiveSet.{held_in, place_in}
use Rattle.c_eval.proofs.Slots.{placed, not_placed, assign_some}
use Rattle.c_eval.proofs.live.Live.assigned.Goals as goal

pub returns-in_default-clause-held : goal.returns-in_default-clause-held
returns-in_default-clause-held c =
    let none : place_in c.args.members.now c.args.name ≡ None = sym c.place_in.ensures ∙ c.in_default.is in
    sym (ap (option_map (λ t. put c.args.name (stored t c.args.number)
    (held_in c.args.members.now c.args.self.now.items c.args.self.now.held)))
    (not_placed c.args.members.now c.args.name none))

pub offset_bounds-items-place : goal.offset_bounds-items-place
offset_bounds-items-place c =
    let p = (placed c.args.members.now c.args.name c.in-Some.place (sym c.place_in.ensures ∙ c.in-Some.is)).within in
    let few = c.requires in
    record { fits = omega arith }

pub bounds-items-place : goal.bounds-items-place
bounds-items-place c =
    let p = (placed c.args.members.now c.args.name c.in-Some.place (sym c.place_in.ensures ∙ c.in-Some.is)).within in
    let few = c.requires in
    omega arith

pub bounds-held-place : goal.bounds-held-place
bounds-held-place c =
    let p = (placed c.args.members.now c.args.name c.in-Some.place (sym c.place_in.ensures ∙ c.in-Some.is)).within in
    let few = c.requires in
    omega arith

pub returns-clause-held : goal.returns-clause-held
returns-clause-held c =
    let l = c.args.self.now in
    let ms = c.args.members.now in
    let i = c.in-Some.place in
    let e : place_in ms c.args.name ≡ Some i = sym c.place_in.ensures ∙ c.in-Some.is in
    let few = c.requires in
    let items : length l.items ≡ 32 = search rules in
    let bits : length l.held ≡ 32 = search rules in
    let at_items : length ms ≤ length l.items = omega arith in
    let at_held : length ms ≤ length l.held = omega arith in
    let fits : SFits w128 c.args.number = search rules in
    ap (λ z. Some (held_in ms (slice_set l.items i z) (slice_set l.held i true))) (to_z-of_z w128 c.args.number fits)
    ∙ assign_some ms l.items l.held i c.args.name c.args.number e at_items at_held
