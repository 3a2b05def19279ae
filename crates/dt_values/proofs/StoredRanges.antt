-- What is stored lies in the range of its type.
use Rattle.std.proofs.Common.{◌≡◌, ℕ, suc, ◌-◌, ◌*◌, ◌^◌, ◌<◌, ◌≤◌, Bool, true, false, cond, ℤ, pos, negsuc, ◌-ℤ◌, refl, ap, ◌∙◌, arith}
use Rattle.std.specs.Prelude.{nat_lt, Option, Some, None}
use mir.Syntax.{w128}
use mir.Val.{SFits, to_z, of_z}
use Rattle.std.proofs.lemmas.Bool.{leb-true, leb-false}
use Rattle.std.proofs.lemmas.Bool.Decides.{nat_tests}
use Rattle.std.proofs.lemmas.Int.{ints, to_z-of_z}
use Rattle.dt_values.specs.BitFields.{has_top_bit, signed, residue}
use Rattle.dt_values.specs.Ranges.{in_signed, in_unsigned, in_range, fits_member}
use Rattle.dt_values.specs.Stored.{stored}
use Rattle.dt_values.specs.declared.ctype.CType.{CType}
use Rattle.dt_values.specs.declared.ctype.CType.TheVariants as c
use Rattle.dt_values.specs.declared.ctype.Member.{Member}
use Rattle.dt_values.proofs.Parts.{residue_below}

below : (x n : ℕ) → x < n → nat_lt x n ≡ true
below x n h = grind (arith, nat_tests)

taken_off : (x m : ℕ) → x < m → pos x -ℤ pos m ≡ negsuc (m - suc x)
taken_off x m h = omega (arith, ints)

-- n is one more than h
signed_if : (top : Bool) (h n x : ℕ) → 2 ^ n ≡ 2 * 2 ^ h → has_top_bit n x ≡ top → x < 2 ^ n
    → in_signed h (cond top (pos x -ℤ pos (2 ^ n)) (pos x)) ≡ true
signed_if true h n x e is small =
    let high : 2 ^ n ≤ 2 * x = leb-true _ _ is in
    ap (in_signed h) (taken_off x (2 ^ n) small) ∙ below (2 ^ n - suc x) (2 ^ h) (omega arith)
signed_if false h n x e is small = let low : 2 * x < 2 ^ n = leb-false _ _ is in below x (2 ^ h) (omega arith)

signed_in : (h n : ℕ) (z : ℤ) → 2 ^ n ≡ 2 * 2 ^ h → in_signed h (signed n (residue n z)) ≡ true
signed_in h n z e = signed_if (has_top_bit n (residue n z)) h n (residue n z) e refl (residue_below n z)

unsigned_in : (n : ℕ) (z : ℤ) → in_unsigned n (pos (residue n z)) ≡ true
unsigned_in n z = below (residue n z) (2 ^ n) (residue_below n z)

pub stored_in : (t : CType) (z : ℤ) → in_range t (stored t z) ≡ true
stored_in c.Int z = signed_in 31 32 z refl
stored_in c.I8 z = signed_in 7 8 z refl
stored_in c.I16 z = signed_in 15 16 z refl
stored_in c.I32 z = signed_in 31 32 z refl
stored_in c.I64 z = signed_in 63 64 z refl
stored_in c.U8 z = unsigned_in 8 z
stored_in c.U16 z = unsigned_in 16 z
stored_in c.U32 z = unsigned_in 32 z
stored_in c.U64 z = unsigned_in 64 z
stored_in (c.Other name) z = refl

-- a number and what is stored of it go through 128 bits unchanged
pub same_stored : (t : CType) (number z : ℤ) → SFits w128 number → SFits w128 z → z ≡ stored t (to_z w128 (of_z w128 number))
    → to_z w128 (of_z w128 z) ≡ stored t number
same_stored t number z fits stored_fits e =
    to_z-of_z w128 z stored_fits ∙ e ∙ ap (stored t) (to_z-of_z w128 number fits)

pub is_in_range : (t : CType) (number z : ℤ) → z ≡ stored t number → in_range t z ≡ true
is_in_range t number z e = ap (in_range t) e ∙ stored_in t number

zero_in : (t : CType) → in_range t (pos 0) ≡ true
zero_in c.Int = refl
zero_in c.I8 = refl
zero_in c.I16 = refl
zero_in c.I32 = refl
zero_in c.I64 = refl
zero_in c.U8 = refl
zero_in c.U16 = refl
zero_in c.U32 = refl
zero_in c.U64 = refl
zero_in (c.Other name) = refl

pub zero_fits : (o : Option Member) → fits_member o (pos 0) ≡ true
zero_fits None = refl
zero_fits (Some m) = zero_in m.ctype
