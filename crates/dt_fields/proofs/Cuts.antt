-- Cutting numbers off changes no answer of the rules of segments.
use Rattle.std.proofs.Common.{◌≡◌, ℕ, ◌+◌, ◌≤◌, ◌==◌, Bool, min, arith}
use Rattle.std.specs.Prelude.{nat_lt}
use Rattle.std.proofs.lemmas.Bool.Decides.{nat_tests}
use Rattle.dt_values.specs.declared.width.Width.{Width}
use Rattle.dt_values.specs.Widths.{width_bits}
use Rattle.dt_fields.specs.declared.number.TheConstants.{LARGEST_NUMBER}
use Rattle.dt_fields.specs.declared.segment.Segment.TheVariants.{Bits}
use Rattle.dt_values.specs.declared.width.Width.TheVariants.{W16, W32, W64}
use Rattle.dt_fields.specs.Cuts.{IsCut}

width_bound : (w : Width) → width_bits w ≤ 64
width_bound W16 = omega arith
width_bound W32 = omega arith
width_bound W64 = omega arith

no_length : (n m : ℕ) → m ≡ min n LARGEST_NUMBER → (n == 0) ≡ (m == 0)
no_length n m is = grind (arith, nat_tests)

too_large : (w a b n m : ℕ) → w ≤ 64 → n ≡ min a LARGEST_NUMBER → m ≡ min b LARGEST_NUMBER → nat_lt w (a + b) ≡ nat_lt w (n + m)
too_large w a b n m small is also = grind (arith, nat_tests)

pub bits_cut : (w : Width) (pos len : ℕ) (signed : Bool) (n m : ℕ) → n ≡ min pos LARGEST_NUMBER → m ≡ min len LARGEST_NUMBER → IsCut w (Bits pos len signed) (n + m) m
bits_cut w pos len signed n m is also = record { no_length = no_length len m also; too_large = too_large (width_bits w) pos len n m (width_bound w) is also }
