-- The new item is the number as its argument's type stores it.
use Rattle.std.proofs.Common.{◌≡◌, ◌∙◌, ap, refl, sym, rules, Some}
use Rattle.std.specs.Prelude.{slice_get, slice_set, unwrap_or}
use mir.Syntax.{w128}
use mir.Val.{SFits, to_z, of_z}
use Rattle.std.proofs.lemmas.Option.{slice_get_read}
use Rattle.dt_values.specs.Stored.{stored}
use Rattle.dt_values.specs.declared.ctype.Member.{Member}
use Rattle.dt_values.proofs.ArgumentItems.{fits_set, zeros_set}
use Rattle.dt_values.proofs.StoredRanges.{is_in_range, same_stored}
use Rattle.dt_values.proofs.values.Values.assigned.Goals as goal

pub invariant_of-result : goal.invariant_of-result
invariant_of-result c =
    let vs = c.args.self.now in
    let m = c.index-self-place.result in
    let z = to_z w128 (of_z w128 c.store.result) in
    let number_fits : SFits w128 c.args.number = search rules in
    let fits : SFits w128 c.store.result = search rules in
    let same_type = ap (λ (x : Member). stored x.ctype (to_z w128 (of_z w128 c.args.number))) (sym c.index-self-place.is) in
    let same = same_stored m.ctype c.args.number c.store.result number_fits fits (c.store.ensures ∙ same_type) in
    let is : slice_get vs.members.now c.args.place ≡ Some m = slice_get_read vs.members.now _ c.args.place m refl c.requires c.index-self-place.is in
    record {
      few = vs.few;
      in_range = fits_set vs.members.now vs.items c.args.place m z is (is_in_range m.ctype c.args.number z same) vs.in_range;
      zeros = zeros_set _ vs.items c.args.place z c.requires vs.zeros;
    }

pub returns-clause-items : goal.returns-clause-items
returns-clause-items c n e =
    let vs = c.args.self.now in
    let m = c.index-self-place.result in
    let number_fits : SFits w128 c.args.number = search rules in
    let fits : SFits w128 c.store.result = search rules in
    let same_type = ap (λ (x : Member). stored x.ctype (to_z w128 (of_z w128 c.args.number))) (sym c.index-self-place.is) in
    let same = same_stored m.ctype c.args.number c.store.result number_fits fits (c.store.ensures ∙ same_type) in
    let is : slice_get vs.members.now c.args.place ≡ Some m = slice_get_read vs.members.now _ c.args.place m refl c.requires c.index-self-place.is in
    ap (slice_set vs.items c.args.place) (same ∙ ap (λ (x : Member). stored x.ctype c.args.number) (ap (λ o. unwrap_or o m) (sym is ∙ e)))
