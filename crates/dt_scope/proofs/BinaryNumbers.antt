-- Numbers by their binary digits: one digit more, and how large they are.
use Rattle.std.proofs.Common.{◌≡◌, cond, ℕ, suc, ◌+◌, ◌*◌, ◌^◌, ◌<◌, ◌≤◌, ◌==◌, ◌||◌, Bool, true, false, List, [], ◌∷◌, ◌++◌, length, ap, sym, ◌∙◌, arith, add-one}
use Rattle.std.proofs.Math.Nat.{pow-suc, mul_assoc, mul-le-mul_right}
use Rattle.std.proofs.Math.Pow.{pow_mono}
use Rattle.std.proofs.lemmas.List.{length_push}
use Rattle.dt_scope.specs.Bits.{fixed_digit, one_digit, ignored_digit, number_of}

power_times_two : (d n : ℕ) → d * 2 ^ suc n ≡ d * 2 ^ n * 2
power_times_two d n = ap (λ m. d * m) (pow-suc 2 n) ∙ sym (mul_assoc d (2 ^ n) 2)

pub number-push : (digit : ℕ → ℕ) (xs : List ℕ) (b : ℕ)
    → number_of digit (xs ++ b ∷ []) ≡ number_of digit xs * 2 + digit b
number-push digit [] b = omega arith
number-push digit (x ∷ xs) b =
    let high : digit x * 2 ^ length (xs ++ b ∷ []) ≡ digit x * 2 ^ length xs * 2
    = ap (λ n. digit x * 2 ^ n) (length_push xs b ∙ add-one (length xs)) ∙ power_times_two (digit x) (length xs) in
    let low : number_of digit (xs ++ b ∷ []) ≡ number_of digit xs * 2 + digit b = number-push digit xs b in
    omega arith

one_or_none : (b : Bool) → (cond b 1 0) ≤ 1
one_or_none true = omega arith
one_or_none false = omega arith

abbrev pub IsDigit : (ℕ → ℕ) → Type 0
IsDigit digit = (b : ℕ) → digit b ≤ 1

pub fixed_is_digit : IsDigit fixed_digit
fixed_is_digit b = one_or_none (b == 48 || b == 49)

pub one_is_digit : IsDigit one_digit
one_is_digit b = one_or_none (b == 49)

pub ignored_is_digit : IsDigit ignored_digit
ignored_is_digit b = one_or_none (b == 45)

pub number_below : (digit : ℕ → ℕ) → IsDigit digit → (xs : List ℕ) → number_of digit xs < 2 ^ length xs
number_below digit is [] = omega arith
number_below digit is (x ∷ xs) =
    let one : digit x ≤ 1 = is x in
    let low : number_of digit xs < 2 ^ length xs = number_below digit is xs in
    let more : 2 ^ suc (length xs) ≡ 2 ^ length xs * 2 = pow-suc 2 (length xs) in
    let high : digit x * 2 ^ length xs ≤ 1 * 2 ^ length xs = mul-le-mul_right (2 ^ length xs) one in
    omega arith

-- one digit more
pub digit_below : (n d count : ℕ) → n < 2 ^ count → d ≤ 1 → n * 2 + d < 2 ^ (count + 1)
digit_below n d count h k =
    let more : 2 ^ (count + 1) ≡ 2 ^ count * 2 = ap (λ m. 2 ^ m) (add-one count) ∙ pow-suc 2 count in
    omega arith

-- there is room for a digit in 64 bits
pub digit_fits : (n count : ℕ) → count < 64 → n < 2 ^ count → n < 2 ^ 63
digit_fits n count h k =
    let short : count ≤ 63 = omega arith in
    let more : 2 ^ count ≤ 2 ^ 63 = pow_mono short in
    omega arith
