-- The parts of a word, and how large they are.
use Rattle.std.proofs.Common.{◌≡◌, ℕ, ◌+◌, ◌-◌, ◌*◌, ◌/◌, ◌%◌, ◌^◌, ◌<◌, ◌≤◌, ◌⊎◌, inl, inr, ℤ, pos, negsuc, bit_and, sym, ap, subst, ◌∙◌, arith, pow_mono, add_comm}
use Rattle.std.proofs.lemmas.Nat.{pow_pos, mod_below, and_mask, shr_split, mod-pow-add, shl_whole, mul-add-lt, shr_below, pow-add}
use Rattle.std.proofs.lemmas.Nat.Bits.{ones_shr}
use Rattle.dt_values.specs.BitFields.{bits_at, deposited, residue}

pub bits_below : (v s l : ℕ) → bits_at v s l < 2 ^ l
bits_below v s l = mod_below (v / 2 ^ s) (2 ^ l) (pow_pos l)

pub residue_below : (n : ℕ) (z : ℤ) → residue n z < 2 ^ n
residue_below n (pos a) = mod_below a (2 ^ n) (pow_pos n)
residue_below n (negsuc a) = let p = pow_pos n in omega arith

-- a mask takes the low bits
pub low_mask : (v l : ℕ) → l ≤ 64 → bit_and v (18446744073709551615 / 2 ^ (64 - l)) ≡ v % 2 ^ l
low_mask v l h =
    let within : 64 - l ≤ 64 = omega arith in
    let back : 64 - (64 - l) ≡ l = omega arith in
    ap (bit_and v) (ones_shr 64 (64 - l) within ∙ ap (λ k. 2 ^ k - 1) back) ∙ and_mask v l

-- the bits above, the bits of the place, and the bits below
three_parts : (v s l : ℕ) → v / 2 ^ (s + l) * 2 ^ (s + l) + bits_at v s l * 2 ^ s + v % 2 ^ s ≡ v
three_parts v s l =
    let low : v % 2 ^ (s + l) ≡ bits_at v s l * 2 ^ s + v % 2 ^ s =
    ap (λ k. v % 2 ^ k) (add_comm s l) ∙ mod-pow-add v l s in
    let whole : v / 2 ^ (s + l) * 2 ^ (s + l) + v % 2 ^ (s + l) ≡ v = shr_split v (s + l) in
    omega arith

-- bits that are moved up to their place lose none
moved : (x s l : ℕ) → x < 2 ^ l → s + l ≤ 64 → x * 2 ^ s % 18446744073709551616 ≡ x * 2 ^ s
moved x s l h f = shl_whole x l s 64 h (omega arith)

pub place_below : (x s l b : ℕ) → x < 2 ^ l → b < 2 ^ s → x * 2 ^ s + b < 2 ^ (s + l)
place_below x s l b h k = let m = mul-add-lt x (2 ^ s) b (2 ^ l) h k in let e = pow-add 2 s l in omega arith

deposited_below : (n v s l f : ℕ) → v < 2 ^ n → s + l ≤ n → deposited v s l f < 2 ^ n
deposited_below n v s l f h k =
    let above = n - (s + l) in
    let high_part = v / 2 ^ (s + l) in
    let low_part = f % 2 ^ l * 2 ^ s + v % 2 ^ s in
    let low : low_part < 2 ^ (s + l) =
    place_below (f % 2 ^ l) s l (v % 2 ^ s) (mod_below f (2 ^ l) (pow_pos l)) (mod_below v (2 ^ s) (pow_pos s)) in
    let up : n ≡ above + (s + l) = omega arith in
    let back : s + l + above ≡ n = omega arith in
    let Word : ℕ → Type 0 = λ m. v < 2 ^ m in
    let high : high_part < 2 ^ above = shr_below v above (s + l) (subst Word up h) in
    let Fits : ℕ → Type 0 = λ m. high_part * 2 ^ (s + l) + low_part < 2 ^ m in
    let fits : high_part * 2 ^ (s + l) + low_part < 2 ^ n =
    subst Fits back (place_below high_part (s + l) above low_part high low) in
    omega arith

-- the old bits taken out, and the new ones put in
replaced : (v s l f : ℕ) → v - bits_at v s l * 2 ^ s + f % 2 ^ l * 2 ^ s ≡ deposited v s l f
replaced v s l f = let e = three_parts v s l in omega arith

pub deposit_is : (v s l f old new : ℕ) → s + l ≤ 64 → old ≡ bits_at v s l → new ≡ f % 2 ^ l
    → v - old * 2 ^ s % 18446744073709551616 + new * 2 ^ s % 18446744073709551616 ≡ deposited v s l f
deposit_is v s l f old new k e d =
    let a = moved (bits_at v s l) s l (bits_below v s l) k in
    let b = moved (f % 2 ^ l) s l (mod_below f (2 ^ l) (pow_pos l)) k in
    ap (λ x. v - x * 2 ^ s % 18446744073709551616 + new * 2 ^ s % 18446744073709551616) e
    ∙ ap (λ x. v - bits_at v s l * 2 ^ s % 18446744073709551616 + x * 2 ^ s % 18446744073709551616) d
    ∙ ap (λ x. v - x + f % 2 ^ l * 2 ^ s % 18446744073709551616) a
    ∙ ap (λ x. v - bits_at v s l * 2 ^ s + x) b
    ∙ replaced v s l f

pub at_most_64 : (n : ℕ) → (n ≡ 32) ⊎ (n ≡ 64) → n ≤ 64
at_most_64 n (inl e) = omega arith
at_most_64 n (inr e) = omega arith

-- the new number is a word of as many bits
pub deposit_below : (n v s l f old new : ℕ) → n ≤ 64 → v < 2 ^ n → s + l ≤ n → old ≡ bits_at v s l → new ≡ f % 2 ^ l
    → v - old * 2 ^ s % 18446744073709551616 + new * 2 ^ s % 18446744073709551616 < 2 ^ n
deposit_below n v s l f old new m h k e d =
    let Below : ℕ → Type 0 = λ x. x < 2 ^ n in
    subst Below (sym (deposit_is v s l f old new (omega arith) e d)) (deposited_below n v s l f h k)

pub deposit_fits : (n v s l f old new : ℕ) → n ≤ 64 → v < 2 ^ n → s + l ≤ n → old ≡ bits_at v s l → new ≡ f % 2 ^ l
    → v - old * 2 ^ s % 18446744073709551616 + new * 2 ^ s % 18446744073709551616 < 2 ^ 64
deposit_fits n v s l f old new m h k e d =
    let a = deposit_below n v s l f old new m h k e d in
    let b : 2 ^ n ≤ 2 ^ 64 = pow_mono m in
    omega arith
