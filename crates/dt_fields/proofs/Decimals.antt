-- Decimal numbers: one digit more, and where they are cut off.
use Rattle.std.proofs.Common.{◌≡◌, ℕ, suc, ◌+◌, ◌-◌, ◌*◌, ◌^◌, ◌<◌, min, List, [], ◌∷◌, ◌++◌, length, take, get_or, ap, sym, ◌∙◌, arith, add-one}
use Rattle.std.proofs.Math.Nat.{pow-suc, mul_assoc}
use Rattle.std.proofs.lemmas.List.{length_push, take_more}
use Rattle.dt_fields.specs.Numbers.{decimal}
use Rattle.dt_fields.specs.declared.number.TheConstants.{LARGEST_NUMBER}

tenfold : (d n : ℕ) → d * 10 ^ suc n ≡ d * 10 ^ n * 10
tenfold d n = ap (λ m. d * m) (pow-suc 10 n) ∙ sym (mul_assoc d (10 ^ n) 10)

pub decimal-push : (xs : List ℕ) (b : ℕ) → decimal (xs ++ b ∷ []) ≡ decimal xs * 10 + (b - 48)
decimal-push [] b = omega arith
decimal-push (x ∷ xs) b =
    let high : (x - 48) * 10 ^ length (xs ++ b ∷ []) ≡ (x - 48) * 10 ^ length xs * 10 = ap (λ n. (x - 48) * 10 ^ n) (length_push xs b ∙ add-one (length xs)) ∙ tenfold (x - 48) (length xs) in
    let low : decimal (xs ++ b ∷ []) ≡ decimal xs * 10 + (b - 48) = decimal-push xs b in
    omega arith

cut_more : (n m : ℕ) (d : ℕ) → m ≡ min n LARGEST_NUMBER → min (m * 10 + d) LARGEST_NUMBER ≡ min (n * 10 + d) LARGEST_NUMBER
cut_more n m d is = omega arith

-- one digit more
pub number_more : (digits : List ℕ) (i d n : ℕ) → i < length digits → n ≡ min (decimal (take i digits)) LARGEST_NUMBER
    → min (n * 10 + (get_or digits i d - 48)) LARGEST_NUMBER ≡ min (decimal (take (i + 1) digits)) LARGEST_NUMBER
number_more digits i d n h is =
    cut_more (decimal (take i digits)) n (get_or digits i d - 48) is
    ∙ ap (λ m. min m LARGEST_NUMBER) (sym (ap decimal (take_more digits i d h) ∙ decimal-push (take i digits) (get_or digits i d)))
