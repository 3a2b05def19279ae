-- Signed numbers of some bits, as words of more bits.
use Rattle.std.proofs.Common.{◌≡◌, ℕ, suc, ◌+◌, ◌-◌, ◌*◌, ◌%◌, ◌^◌, ◌<◌, ◌≤◌, Bool, true, false, cond, ℤ, pos, negsuc}
use Rattle.std.proofs.Common.{◌-ℤ◌, refl, sym, ap, ◌∙◌, arith, pow_mono, mod-eq_of_lt, mul_assoc}
use Rattle.std.proofs.lemmas.Int.{ints}
use Rattle.std.proofs.lemmas.Bool.{le-leb, leb-true, leb-false, lt-leb}
use Rattle.std.proofs.lemmas.Bool.Decides.{same_from_decides}
use Rattle.std.proofs.lemmas.Nat.{pow_pos, pow-add, mod_low, mul-le}
use Rattle.std.proofs.Math.Nat.{add-mul, lt_of_mul-lt-mul_right}
use Rattle.dt_values.specs.BitFields.{has_top_bit, signed, residue}
use Rattle.dt_match.proofs.LowBits.{two_factors}

-- l bits with a sign, as a word of n bits
abbrev pub spread : ℕ → ℕ → ℕ → ℕ
spread n l b = cond (has_top_bit l b) (2 ^ n - 2 ^ l + b) b

-- ---- the top bit of joined bits is that of the first of them
half : (l : ℕ) → 1 ≤ l → 2 ^ l ≡ 2 * 2 ^ (l - 1)
half l h = let e : l ≡ 1 + (l - 1) = omega arith in ap (λ k. 2 ^ k) e ∙ pow-add 2 1 (l - 1)

up_from : (half y b j : ℕ) → half ≤ b → half * y ≤ b * y + j
up_from half y b j h = let m = mul-le half y b y h (omega arith) in omega arith

down_from : (half y b j : ℕ) → j < y → half * y ≤ b * y + j → half ≤ b
down_from half y b j k h =
    let e = add-mul b 1 y in
    let below : half * y < (b + 1) * y = omega arith in
    let less : half < b + 1 = lt_of_mul-lt-mul_right y below in
    omega arith

pub top_of_joined : (l p b j : ℕ) → 1 ≤ l → j < 2 ^ p → has_top_bit (l + p) (b * 2 ^ p + j) ≡ has_top_bit l b
top_of_joined l p b j some below =
    let e = half l some in
    let f : 2 ^ (l + p) ≡ 2 * (2 ^ (l - 1) * 2 ^ p) =
    pow-add 2 l p ∙ ap (λ x. x * 2 ^ p) e ∙ mul_assoc 2 (2 ^ (l - 1)) (2 ^ p) in
    same_from_decides _ _ (
      λ t.
          let a : 2 ^ (l + p) ≤ 2 * (b * 2 ^ p + j) = leb-true _ _ t in
          let c : 2 ^ (l - 1) ≤ b = down_from (2 ^ (l - 1)) (2 ^ p) b j below (omega arith) in
          c,
      λ c. le-leb _ _ (let m = up_from (2 ^ (l - 1)) (2 ^ p) b j c in omega arith),
    )
    (λ t. let a : 2 ^ l ≤ 2 * b = leb-true _ _ t in omega arith, λ c. le-leb _ _ (omega arith))

-- ---- a signed number as a word
abbrev signed_if : Bool → ℕ → ℕ → ℤ
signed_if t l b = cond t (pos b -ℤ pos (2 ^ l)) (pos b)

abbrev spread_if : Bool → ℕ → ℕ → ℕ → ℕ
spread_if t n l b = cond t (2 ^ n - 2 ^ l + b) b

below_zero : (b m : ℕ) → b < m → pos b -ℤ pos m ≡ negsuc (m - suc b)
below_zero b m h = omega (arith, ints)

residue_if : (t : Bool) (n l b : ℕ) → b < 2 ^ l → l ≤ n → residue n (signed_if t l b) ≡ spread_if t n l b
residue_if true n l b h k =
    let le : 2 ^ l ≤ 2 ^ n = pow_mono k in
    let small : 2 ^ l - suc b < 2 ^ n = omega arith in
    let low : (2 ^ l - suc b) % 2 ^ n ≡ 2 ^ l - suc b = mod-eq_of_lt small in
    ap (residue n) (below_zero b (2 ^ l) h) ∙ ap (λ x. 2 ^ n - 1 - x) low ∙ (omega arith)
residue_if false n l b h k =
    let le : 2 ^ l ≤ 2 ^ n = pow_mono k in
    let small : b < 2 ^ n = omega arith in
    mod-eq_of_lt small

pub residue_of_signed : (n l b : ℕ) → b < 2 ^ l → l ≤ n → residue n (signed l b) ≡ spread n l b
residue_of_signed n l b h k = residue_if (has_top_bit l b) n l b h k

read_if : (t : Bool) (n x : ℕ) → has_top_bit n x ≡ t → signed n x ≡ signed_if t n x
read_if t n x e = ap (λ u. signed_if u n x) e

spread_read : (t : Bool) (n l b : ℕ) → has_top_bit l b ≡ t → b < 2 ^ l → l ≤ n
    → signed n (spread_if t n l b) ≡ signed_if t l b
spread_read true n l b e h k =
    let le : 2 ^ l ≤ 2 ^ n = pow_mono k in
    let top : 2 ^ l ≤ 2 * b = leb-true _ _ e in
    let f : pos (2 ^ n - 2 ^ l + b) -ℤ pos (2 ^ n) ≡ pos b -ℤ pos (2 ^ l) = omega (arith, ints) in
    read_if true n (2 ^ n - 2 ^ l + b) (le-leb _ _ (omega arith)) ∙ f
spread_read false n l b e h k =
    let le : 2 ^ l ≤ 2 ^ n = pow_mono k in
    let top : 2 * b < 2 ^ l = leb-false _ _ e in
    read_if false n b (lt-leb _ _ (omega arith))

pub signed_of_spread : (n l b : ℕ) → b < 2 ^ l → l ≤ n → signed n (spread n l b) ≡ signed l b
signed_of_spread n l b h k = spread_read (has_top_bit l b) n l b refl h k

spread_if_below : (t : Bool) (n l b : ℕ) → b < 2 ^ l → l ≤ n → spread_if t n l b < 2 ^ n
spread_if_below true n l b h k = let le : 2 ^ l ≤ 2 ^ n = pow_mono k in omega arith
spread_if_below false n l b h k = let le : 2 ^ l ≤ 2 ^ n = pow_mono k in omega arith

pub spread_below : (n l b : ℕ) → b < 2 ^ l → l ≤ n → spread n l b < 2 ^ n
spread_below n l b h k = spread_if_below (has_top_bit l b) n l b h k

-- some copies of a power taken off a larger one are copies of it
copies : (n k : ℕ) → k ≤ n → 2 ^ n - 2 ^ k ≡ (2 ^ (n - k) - 1) * 2 ^ k
copies n k h =
    let e = two_factors n k h in
    let p = pow_pos (n - k) in
    let f = add-mul (2 ^ (n - k) - 1) 1 (2 ^ k) in
    let g : (2 ^ (n - k) - 1) + 1 ≡ 2 ^ (n - k) = omega arith in
    let whole : ((2 ^ (n - k) - 1) + 1) * 2 ^ k ≡ 2 ^ (n - k) * 2 ^ k = ap (λ x. x * 2 ^ k) g in
    omega arith

spread_if_low : (t : Bool) (n k b : ℕ) → b < 2 ^ k → k ≤ n → spread_if t n k b % 2 ^ k ≡ b
spread_if_low true n k b h le = ap (λ x. (x + b) % 2 ^ k) (copies n k le) ∙ mod_low (2 ^ (n - k) - 1) k b h
spread_if_low false n k b h le = mod-eq_of_lt h

pub spread_low : (n k b : ℕ) → b < 2 ^ k → k ≤ n → spread n k b % 2 ^ k ≡ b
spread_low n k b h le = spread_if_low (has_top_bit k b) n k b h le

-- a spread number cut to fewer bits is spread over these
spread_if_cut : (t : Bool) (n m l b : ℕ) → b < 2 ^ l → l ≤ m → m ≤ n → spread_if t n l b % 2 ^ m ≡ spread_if t m l b
spread_if_cut true n m l b h k le =
    let a : 2 ^ l ≤ 2 ^ m = pow_mono k in
    let c : 2 ^ m ≤ 2 ^ n = pow_mono le in
    let e = copies n m le in
    let low : 2 ^ m - 2 ^ l + b < 2 ^ m = omega arith in
    let f : 2 ^ n - 2 ^ l + b ≡ (2 ^ (n - m) - 1) * 2 ^ m + (2 ^ m - 2 ^ l + b) = omega arith in
    ap (λ x. x % 2 ^ m) f ∙ mod_low (2 ^ (n - m) - 1) m (2 ^ m - 2 ^ l + b) low
spread_if_cut false n m l b h k le = let a : 2 ^ l ≤ 2 ^ m = pow_mono k in let low : b < 2 ^ m =
    omega arith in mod-eq_of_lt low

-- and with j below it, it is the joined number spread
spread_if_above : (t : Bool) (n l p b j : ℕ) → l + p ≤ n
    → spread_if t (n - p) l b * 2 ^ p + j ≡ spread_if t n (l + p) (b * 2 ^ p + j)
spread_if_above true n l p b j k =
    let le : l ≤ n - p = omega arith in
    let a : 2 ^ l ≤ 2 ^ (n - p) = pow_mono le in
    let e = two_factors n p (omega arith) in
    let f = pow-add 2 l p in
    let g = add-mul (2 ^ (n - p) - 2 ^ l) b (2 ^ p) in
    let d = add-mul (2 ^ (n - p) - 2 ^ l) (2 ^ l) (2 ^ p) in
    let back : (2 ^ (n - p) - 2 ^ l) + 2 ^ l ≡ 2 ^ (n - p) = omega arith in
    let whole : ((2 ^ (n - p) - 2 ^ l) + 2 ^ l) * 2 ^ p ≡ 2 ^ (n - p) * 2 ^ p = ap (λ x. x * 2 ^ p) back in
    omega arith
spread_if_above false n l p b j k = refl

pub spread_joined : (n l p b j : ℕ) → 1 ≤ l → l + p ≤ n → b < 2 ^ l → j < 2 ^ p
    → spread n l b % 2 ^ (n - p) * 2 ^ p + j ≡ spread n (l + p) (b * 2 ^ p + j)
spread_joined n l p b j some k h below =
    ap (λ x. x * 2 ^ p + j) (spread_if_cut (has_top_bit l b) n (n - p) l b h (omega arith) (omega arith))
    ∙ spread_if_above (has_top_bit l b) n l p b j k
    ∙ ap (λ t. spread_if t n (l + p) (b * 2 ^ p + j)) (sym (top_of_joined l p b j some below))
