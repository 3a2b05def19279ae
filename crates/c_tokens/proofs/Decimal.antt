-- Numbers by their decimal digits.
use Rattle.std.proofs.Common.{◌≡◌, ℕ, ◌<◌, ◌≤◌, ◌+◌, ◌-◌, ◌*◌, ◌^◌, ◌%◌, List, [], ◌∷◌, ◌++◌, length, drop, get_or}
use Rattle.std.proofs.Common.{Bool, true, false, refl, sym, ap, ◌∙◌, arith, drop-cons, add-one}
use Rattle.std.specs.Prelude.{nat_eq, decimal}
use Rattle.std.specs.Cmp.Lexicographic.{pointwise, bytes_decides}
use Rattle.std.proofs.lemmas.Fmt.{decimal_by_steps}
use Rattle.std.proofs.lemmas.List.{drop_all}
use Rattle.c_tokens.specs.Words.{digits_value}

digits_push : (n : ℕ) (ds : List ℕ) (d : ℕ) → digits_value n (ds ++ d ∷ []) ≡ 10 * digits_value n ds + (d - 48)
unfolding digits_value
digits_push n [] d = refl
digits_push n (x ∷ ds) d = digits_push (10 * n + (x - 48)) ds d

digit_back : (m : ℕ) → digits_value 0 ((48 + m) ∷ []) ≡ m
unfolding digits_value
digit_back m = omega arith

-- the digits of a number stand for it
digits_back : (n : ℕ) → n < 2 ^ 64 → digits_value 0 (decimal n) ≡ n
digits_back n h =
    decimal_by_steps (λ m ds. digits_value 0 ds ≡ m)
    (λ m l. digit_back m)
    (λ m ds l w. digits_push 0 ds (48 + m % 10) ∙ (omega (arith, w)))
    n h

pub digits_more : (v : ℕ) (ds : List ℕ) (i d m : ℕ) → i < length ds → d ≡ get_or ds i 0 - 48
    → digits_value v (drop i ds) ≡ m
    → digits_value (v * 10 + d) (drop (i + 1) ds) ≡ m
unfolding digits_value
digits_more v ds i d m h e is =
    let n : v * 10 + d ≡ 10 * v + (get_or ds i 0 - 48) = omega (arith, e) in
    let step : digits_value (v * 10 + d) (drop (i + 1) ds) ≡ digits_value v (drop i ds) =
    rw (n, add-one, drop-cons ds i 0) refl in
    step ∙ is

grow : (n : ℕ) (ds : List ℕ) → n ≤ digits_value n ds
unfolding digits_value
grow n [] = omega arith
grow n (d ∷ ds) = omega (arith, grow (10 * n + (d - 48)) ds)

pub digits_grow : (v : ℕ) (ds : List ℕ) (i d m : ℕ) → i < length ds → d ≡ get_or ds i 0 - 48
    → digits_value v (drop i ds) ≡ m → v * 10 + d ≤ m
digits_grow v ds i d m h e is = omega (arith, grow (v * 10 + d) (drop (i + 1) ds), digits_more v ds i d m h e is)

pub digits_all : (v : ℕ) (ds : List ℕ) (i m : ℕ) → length ds ≤ i → digits_value v (drop i ds) ≡ m → v ≡ m
unfolding digits_value
digits_all v ds i m h is = ap (digits_value v) (sym (drop_all i ds h)) ∙ is

pub too_large : (word : List ℕ) → 2 ^ 64 ≤ digits_value 0 word → (n : ℕ) → n < 2 ^ 64 → word ≡ decimal n → ⊥
too_large word h n l e = omega (arith, h, l, ap (digits_value 0) e, digits_back n l)

pub is_decimal_word : (word : List ℕ) (n : ℕ) (test : Bool) → test ≡ pointwise nat_eq word (decimal n) → test ≡ true
    → word ≡ decimal n
is_decimal_word word n test e h = (bytes_decides word (decimal n)).0 (sym e ∙ h)

pub is_not_decimal : (word : List ℕ) (v : ℕ) (test : Bool) → v ≡ digits_value 0 word
    → test ≡ pointwise nat_eq word (decimal v) → test ≡ false
    → (n : ℕ) → n < 2 ^ 64 → word ≡ decimal n → ⊥
is_not_decimal word v test is e h n l same =
    let value : v ≡ n = is ∙ ap (digits_value 0) same ∙ digits_back n l in
    let yes : pointwise nat_eq word (decimal v) ≡ true =
    (bytes_decides word (decimal v)).1 (same ∙ ap decimal (sym value)) in
    let no : false ≡ true = sym h ∙ e ∙ yes in cc

pub ruleset digit_steps = (digits_more, digits_grow, digits_all)

pub ruleset decimal_words = (too_large, is_decimal_word, is_not_decimal)
