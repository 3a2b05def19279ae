-- The digits of a pattern, one behind the other and token by token.
use Rattle.std.proofs.Common.{◌≡◌, ℕ, ◌+◌, ◌-◌, ◌*◌, ◌^◌, List, [], ◌∷◌, ◌++◌, length, refl, ap, sym, ◌∙◌, append_assoc, append-nil, arith}
use Rattle.std.proofs.lemmas.List.{length_push}
use Rattle.dt_scope.specs.declared.bits.Bits.{Bits}
use Rattle.dt_scope.specs.Bits.{bits_at_top, bits_of, fixed_digit, ignored_digit, number_at_top, number_of, one_digit, with_digit, with_digits}
use Rattle.dt_scope.proofs.BinaryNumbers.{number-push}

abbrev bits_with : ℕ → ℕ → ℕ → ℕ → Bits
bits_with count fixed_bits fixed_mask ignored =
    record { count = count; fixed_bits = fixed_bits; fixed_mask = fixed_mask; ignored = ignored }

same_bits : (a b c d e f g h : ℕ) → a ≡ e → b ≡ f → c ≡ g → d ≡ h → bits_with a b c d ≡ bits_with e f g h
same_bits a b c d e f g h p q r s = cc

one_more : (xs : List ℕ) (b : ℕ) → with_digit (bits_of xs) b ≡ bits_of (xs ++ b ∷ [])
one_more xs b =
    same_bits _ _ _ _ _ _ _ _ (sym (length_push xs b)) (sym (number-push one_digit xs b))
    (sym (number-push fixed_digit xs b)) (sym (number-push ignored_digit xs b))

pub digits_more : (xs ys : List ℕ) → with_digits (bits_of xs) ys ≡ bits_of (xs ++ ys)
digits_more xs [] = ap bits_of (sym (append-nil xs))
digits_more xs (y ∷ ys) =
    ap (λ b. with_digits b ys) (one_more xs y) ∙ digits_more (xs ++ y ∷ []) ys
    ∙ ap bits_of (append_assoc xs (y ∷ []) ys)

pub digits_at_start : (bits : Bits) (ys : List ℕ) → bits ≡ bits_of [] → with_digits bits ys ≡ bits_of ys
digits_at_start bits ys none = ap (λ b. with_digits b ys) none ∙ digits_more [] ys

pub digits_append : (bits : Bits) (xs ys : List ℕ) → with_digits bits (xs ++ ys) ≡ with_digits (with_digits bits xs) ys
digits_append bits [] ys = refl
digits_append bits (x ∷ xs) ys = digits_append (with_digit bits x) xs ys

pub digits_count : (bits : Bits) (xs : List ℕ) → (with_digits bits xs).count ≡ bits.count + length xs
digits_count bits [] = omega arith
digits_count bits (x ∷ xs) = omega (arith, digits_count (with_digit bits x) xs)

-- where there is a digit for each bit of the word, the number at its top is the number
pub at_top : (width : ℕ) (digit : ℕ → ℕ) (digits : List ℕ) → length digits ≡ width
    → number_at_top width digit digits ≡ number_of digit digits
at_top width digit digits long =
    let none : width - length digits ≡ 0 = omega arith in
    let one : number_of digit digits * 2 ^ 0 ≡ number_of digit digits = omega arith in
    ap (λ n. number_of digit digits * 2 ^ n) none ∙ one

pub whole_at_top : (width : ℕ) (digits : List ℕ) → length digits ≡ width → bits_at_top width digits ≡ bits_of digits
whole_at_top width digits long =
    same_bits _ _ _ _ _ _ _ _ refl (at_top width one_digit digits long) (at_top width fixed_digit digits long)
    (at_top width ignored_digit digits long)

-- no digit says nothing
pub none_at_top : (width : ℕ) (digits : List ℕ) → length digits ≡ 0 → bits_at_top width digits ≡ bits_of []
none_at_top width [] none =
    same_bits _ _ _ _ _ _ _ _ refl (omega arith) (omega arith) (omega arith)
none_at_top width (d ∷ ds) none = absurd (omega (arith, none))
