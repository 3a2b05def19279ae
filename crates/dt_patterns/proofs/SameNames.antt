-- Two lists of the same names, none twice, are the same but for their order.
use Rattle.std.proofs.Common.{◌≡◌, ◌≢◌, ℕ, zero, suc, true, false, List, [], ◌∷◌, refl, ap, ◌∙◌, sym, arith}
use Rattle.std.specs.List.{AllByRecursion, Contains, IsDistinct, list_any, remove}
use Rattle.std.specs.List.Sorted.{IsPermutation}
use Rattle.std.specs.Cmp.Lexicographic.{nat_list_eq_equiv, same_text, other_text}
use Rattle.std.proofs.lemmas.List.Sorted.{Contains-permutation, IsPermutation-cons, IsPermutation-refl, IsPermutation-remove, IsPermutation-sym, IsPermutation-trans}
use Rattle.std.proofs.lemmas.Map.Keys.{IsDistinct-IsPermutation, IsDistinct-head, IsDistinct-tail}
use Rattle.std.proofs.lemmas.Map.Views.{Contains-from_any}
use Rattle.dt_values.specs.Types.{is_text}

abbrev Names : Type 0
Names = List (List ℕ)

later : (x n : List ℕ) (xs : Names) → Contains xs n → Contains (x ∷ xs) n
later x n xs (k, below, is) = (suc k, omega arith, is)

in_rest : (x n : List ℕ) (xs : Names) → (x ≢ n) → Contains (x ∷ xs) n → Contains xs n
in_rest x n xs differ (zero, below, is) = absurd (differ is)
in_rest x n xs differ (suc k, below, is) = (k, omega arith, is)

not_first : (x n : List ℕ) (xs : Names) → AllByRecursion (λ y. is_text x y ≡ false) xs → Contains xs n → x ≢ n
not_first x n [] differ (k, below, is) = absurd (omega arith)
not_first x n (y ∷ ys) differ (zero, below, is) = λ same. other_text x y (sym differ.0) (same ∙ sym is)
not_first x n (y ∷ ys) differ (suc k, below, is) = not_first x n ys differ.1 (k, omega arith, is)

pub same_names : (xs ys : Names) → IsDistinct is_text xs → IsDistinct is_text ys
    → ((n : List ℕ) → Contains xs n → Contains ys n) → ((n : List ℕ) → Contains ys n → Contains xs n)
    → IsPermutation xs ys
same_names [] [] here there to from = IsPermutation-refl []
same_names [] (y ∷ ys) here there to from = let none : Contains [] y = from y (0, omega arith, refl) in
    absurd (omega (arith, none.1))
same_names (x ∷ xs) ys here there to from =
    let at : Contains ys x = to x (0, omega arith, refl) in
    let rest : Names = remove ys at.0 in
    let moved : IsPermutation ys (x ∷ rest) = IsPermutation-remove ys at.0 x at.1 (sym at.2) in
    let parts : IsDistinct is_text (x ∷ rest) =
    IsDistinct-IsPermutation is_text nat_list_eq_equiv.symm ys (x ∷ rest) moved there in
    let more : IsPermutation xs rest = same_names xs rest (IsDistinct-tail is_text x xs here)
    (IsDistinct-tail is_text x rest parts)
    (λ n h. in_rest x n rest (not_first x n xs (IsDistinct-head is_text x xs here) h)
    (Contains-permutation ys (x ∷ rest) n moved (to n (later x n xs h))))
    (λ n h. in_rest x n xs (not_first x n rest (IsDistinct-head is_text x rest parts) h)
    (from n (Contains-permutation (x ∷ rest) ys n (IsPermutation-sym ys (x ∷ rest) moved) (later x n rest h)))) in
    IsPermutation-trans (x ∷ xs) (x ∷ rest) ys (IsPermutation-cons x xs rest more)
    (IsPermutation-sym ys (x ∷ rest) moved)

-- a name that a test finds is there
pub is_there : (n : List ℕ) (xs : Names) → list_any (is_text n) xs ≡ true → Contains xs n
is_there n xs h = Contains-from_any (λ x y e. same_text x y (sym e)) n xs h

pub text_decides : (x y : List ℕ) → (is_text x y ≡ true → x ≡ y) × (x ≡ y → is_text x y ≡ true)
text_decides x y = (λ e. same_text x y (sym e), λ e. ap (is_text x) (sym e) ∙ nat_list_eq_equiv.refl x)
