-- 0 is in the range of each type.
use Rattle.std.proofs.Common.{◌∙◌, ap, refl}
use Rattle.std.specs.Prelude.{slice_get}
use Rattle.dt_values.specs.Ranges.{fits_member}
use Rattle.dt_values.proofs.ArgumentItems.{zeros}
use Rattle.dt_values.proofs.StoredRanges.{zero_fits}
use Rattle.dt_values.proofs.values.Values.zeros.Goals as goal

pub invariant_of-result : goal.invariant_of-result
invariant_of-result c = record {
  few = c.requires;
  in_range = λ k. ap (fits_member (slice_get c.args.members.now k)) (zeros _ refl k) ∙ zero_fits (slice_get c.args.members.now k);
  zeros = λ k h. zeros _ refl k;
}

pub returns-clause-items : goal.returns-clause-items
returns-clause-items c k = zeros _ refl k
