-- The masks of a pattern's digits.
use Rattle.std.proofs.Common.{◌≡◌, ℕ, ◌+◌, ◌*◌, ◌^◌, ◌<◌, ◌==◌, ◌||◌, Bool, true, false, List, [], ◌∷◌, length, refl, ap, ◌∙◌, subst, ⊎_elim, arith, bit_and}
use Rattle.std.specs.Prelude.{if◌then◌else◌}
use Rattle.std.proofs.lemmas.Bool.{cases_eq}
use Rattle.std.proofs.lemmas.Bool.Decides.{nat_tests}
use Rattle.std.proofs.lemmas.Nat.{and_block}
use Rattle.dt_scope.specs.Bits.{fixed_digit, one_digit, ignored_digit, number_of}
use Rattle.dt_model.specs.Sound.{AreMasks}
use Rattle.dt_scope.proofs.BinaryNumbers.{fixed_is_digit, ignored_is_digit, number_below, one_is_digit}

-- the ones are under the fixed mask, bit by bit
one_under : (zeros ones : Bool) → bit_and (if ones then 1 else 0) (if zeros || ones then 1 else 0)
    ≡ (if ones then 1 else 0)
one_under true true = refl
one_under true false = refl
one_under false true = refl
one_under false false = refl

ones_under : (bs : List ℕ) → bit_and (number_of one_digit bs) (number_of fixed_digit bs) ≡ number_of one_digit bs
ones_under [] = refl
ones_under (b ∷ bs) =
    and_block (length bs) (one_digit b) (fixed_digit b) (number_of one_digit bs) (number_of fixed_digit bs)
    (number_below one_digit one_is_digit bs) (number_below fixed_digit fixed_is_digit bs)
    ∙ ap (λ d. d * 2 ^ length bs + bit_and (number_of one_digit bs) (number_of fixed_digit bs))
    (one_under (b == 48) (b == 49))
    ∙ ap (λ r. one_digit b * 2 ^ length bs + r) (ones_under bs)

-- no bit is fixed and ignored
digit_of_dash : (b : ℕ) → b ≡ 45 → bit_and (fixed_digit b) (ignored_digit b) ≡ 0
digit_of_dash b e = ap (λ c. bit_and (fixed_digit c) (ignored_digit c)) e

not_ignored : (test other : Bool) → other ≡ false → bit_and (if test then 1 else 0) (if other then 1 else 0) ≡ 0
not_ignored true other e = ap (λ o. bit_and 1 (if o then 1 else 0)) e
not_ignored false other e = ap (λ o. bit_and 0 (if o then 1 else 0)) e

no_dash : (b : ℕ) → (b ≡ 45 → ⊥) → (b == 45) ≡ false
no_dash b h = grind (arith, nat_tests)

digits_apart : (b : ℕ) → bit_and (fixed_digit b) (ignored_digit b) ≡ 0
digits_apart b = ⊎_elim (λ (e : b ≡ 45). digit_of_dash b e)
    (λ (h : b ≡ 45 → ⊥). not_ignored (b == 48 || b == 49) (b == 45) (no_dash b h)) (cases_eq b 45)

masks_apart : (bs : List ℕ) → bit_and (number_of fixed_digit bs) (number_of ignored_digit bs) ≡ 0
masks_apart [] = refl
masks_apart (b ∷ bs) =
    and_block (length bs) (fixed_digit b) (ignored_digit b) (number_of fixed_digit bs) (number_of ignored_digit bs)
    (number_below fixed_digit fixed_is_digit bs) (number_below ignored_digit ignored_is_digit bs)
    ∙ ap (λ d. d * 2 ^ length bs + bit_and (number_of fixed_digit bs) (number_of ignored_digit bs)) (digits_apart b)
    ∙ ap (λ r. 0 * 2 ^ length bs + r) (masks_apart bs)
    ∙ (let none : 0 * 2 ^ length bs + 0 ≡ 0 = omega arith in none)

pub digit_masks : (width : ℕ) (digits : List ℕ) → length digits ≡ width
    → AreMasks width (number_of one_digit digits) (number_of fixed_digit digits) (number_of ignored_digit digits)
digit_masks width digits long = record {
  fixed_below = subst (λ n. number_of fixed_digit digits < 2 ^ n) long (number_below fixed_digit fixed_is_digit digits);
  ignored_below = subst (λ n. number_of ignored_digit digits < 2 ^ n) long
      (number_below ignored_digit ignored_is_digit digits);
  bits_in_mask = ones_under digits;
  apart = masks_apart digits;
}
