-- A write to a sink that grows puts the bytes.
use Rattle.std.proofs.Common.{◌≡◌, ℕ, ◌<◌, List, ◌++◌, length, true, false, refl, ap, sym, append-nil, arith}
use Rattle.std.specs.Prelude.{Result, Ok, Err, OnOk, OnErr, Some, nat_lt}
use Rattle.dt_io.specs.Causes.{one_more}
use Rattle.dt_text.specs.Growing.{GrowingMemory, growing_state}
use Rattle.dt_text.specs.Puts.{Puts}

pub puts_written : {T E : Type 0} (r : Result T E) (before after : GrowingMemory) (bytes : List ℕ)
    → before.faults ≡ 0
    → OnOk r (after ≡ record before { written = before.written ++ bytes })
    → OnErr r (after ≡ record before { faults = one_more before.faults })
    → OnErr r (0 < length bytes)
    → Puts (growing_state before) (growing_state after) bytes
puts_written (Ok n) before after bytes quiet all none full =
    let sound : nat_lt 0 before.faults ≡ false = ap (nat_lt 0) quiet in
    rw all (record {
      all = λ h. (sound, refl);
      part = λ e f. cc;
      still = λ h. cc;
      only = record { faults = omega arith; rest = refl };
    })
puts_written (Err e) before after bytes quiet all none full =
    let sound : nat_lt 0 before.faults ≡ false = ap (nat_lt 0) quiet in
    let failed : nat_lt 0 (one_more before.faults) ≡ true = ap (λ n. nat_lt 0 (one_more n)) quiet in
    rw none (record {
      all = λ h. cc;
      part = λ e f. (record { count = 0; short = full; part = ap Some (sym (append-nil before.written)) }, omega arith);
      still = λ h. cc;
      only = record { faults = omega arith; rest = refl };
    })
