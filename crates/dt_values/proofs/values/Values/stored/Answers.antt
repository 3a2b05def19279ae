-- Zeros at first, and then one more number as its argument's type stores it.
use Rattle.std.proofs.Common.{◌≡◌, ◌<◌, length, get_or, pos, refl, ap, sym, ◌∙◌, arith, rules, length-set, Some}
use Rattle.std.specs.Prelude.{slice_get, option_map}
use mir.Syntax.{w128}
use mir.Val.{SFits, to_z, of_z}
use Rattle.std.proofs.lemmas.Option.{slice_get_read, slice_get_within, slice_get-get_or}
use Rattle.dt_values.specs.Stored.{stored}
use Rattle.dt_values.proofs.ArgumentItems.{zeros, one_more, zeros_behind, one_stored}
use Rattle.dt_values.proofs.StoredRanges.{is_in_range, same_stored}
use Rattle.dt_values.proofs.values.Values.stored.Goals as goal

pub loop-i-init : goal.loop-i-init
loop-i-init c = record {
  long = refl;
  few = c.requires;
  fits = λ k h. absurd (omega arith);
  zeros = λ k h. zeros _ refl k;
  done = λ k h. absurd (omega arith);
}

pub loop-i-preserved : goal.loop-i-preserved
loop-i-preserved c =
    let members = c.args.members.now in
    let i = c.loop-i.i in
    let items = c.loop-i.items in
    let m = c.index-members-i.result in
    let number = get_or c.args.numbers.now i (pos 0) in
    let z = to_z w128 (of_z w128 c.store.result) in
    let number_fits : SFits w128 number = search rules in
    let fits : SFits w128 c.store.result = search rules in
    let same = same_stored m.ctype number c.store.result number_fits fits c.store.ensures in
    let is : slice_get members i ≡ Some m = slice_get_read members _ i m refl c.loop-i-test.true c.index-members-i.is in
    let few = c.requires in
    let long = c.loop-i.invariant.long in
    let within : i < length items = omega arith in
    record {
      long = length-set _ _ _ ∙ long;
      few = c.requires;
      fits = one_more members items i m z within is (is_in_range m.ctype number z same) c.loop-i.invariant.fits;
      zeros = zeros_behind items i z c.loop-i.invariant.zeros;
      done = one_stored members c.args.numbers.now items i m z within is same c.loop-i.invariant.done;
    }

pub returns-clause-items : goal.returns-clause-items
returns-clause-items c k m is =
    let items = c.loop-i.items in
    let numbers = c.args.numbers.now in
    let few = c.requires in
    let within = slice_get_within c.args.members.now k m is in
    let past : length c.args.members.now ≡ c.loop-i.i = search rules in
    let long : length items ≡ 32 = c.loop-i.invariant.long in
    let all : length numbers ≡ 32 = search rules in
    slice_get-get_or items k (pos 0) (omega arith) ∙ ap Some (c.loop-i.invariant.done k (omega arith) m is)
    ∙ sym (ap (option_map (stored m.ctype)) (slice_get-get_or numbers k (pos 0) (omega arith)))
