-- The items so far are stored, and the others are 0.
use Rattle.std.proofs.Common.{◌≡◌, ℕ, ◌<◌, ◌≤◌, length, pos, true, get_or, Some}
use Rattle.std.specs.Prelude.{slice_get}
use Rattle.dt_values.specs.Ranges.{fits_member}
use Rattle.dt_values.specs.Stored.{stored}
use Rattle.dt_values.specs.declared.ctype.Member.{Member}
use Rattle.dt_values.proofs.values.Values.stored.Given as goal

abbrev pub invariant-loop-i : goal.invariant-loop-i
invariant-loop-i l = record {
  long : length l.items ≡ 32;
  few : length l.members ≤ 32;
  fits : (k : ℕ) → k < l.i → fits_member (slice_get l.members k) (get_or l.items k (pos 0)) ≡ true;
  zeros : (k : ℕ) → l.i ≤ k → get_or l.items k (pos 0) ≡ pos 0;
  done : (k : ℕ) → k < l.i → (m : Member) → slice_get l.members k ≡ Some m → get_or l.items k (pos 0) ≡ stored m.ctype (get_or l.numbers k (pos 0));
}
