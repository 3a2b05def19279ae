-- Rows of rules of which none is broken.
use Rattle.std.proofs.Common.{◌≡◌, ◌≢◌, ℕ, ◌==◌, ◌&&◌, Bool, true, false, List, [], ◌∷◌, ◌++◌, refl, sym, ap, ◌∙◌, arith}
use Rattle.std.specs.Prelude.{IsTrue, nat_eq, not}
use Rattle.std.specs.Cmp.Lexicographic.{pointwise, nat_list_eq_equiv}
use Rattle.std.proofs.lemmas.Bool.Decides.{nat_tests}
use Rattle.dt_fields.specs.Faults.{Broken, where_broken}

pub both_empty : {A : Type 0} (xs ys : List A) → xs ++ ys ≡ [] → (xs ≡ []) × (ys ≡ [])
both_empty [] ys h = (refl, h)
both_empty (x ∷ xs) ys h = absurd (cc)

pub not_broken : (test : Bool) (b : Broken) → where_broken test b ≡ [] → test ≡ false
not_broken true b h = absurd (cc)
not_broken false b h = refl

pub not_false : (test : Bool) → not test ≡ false → IsTrue test
not_false true h = refl
not_false false h = absurd (cc)

pub same_number : (n m : ℕ) → not (n == m) ≡ false → n ≡ m
same_number n m h = grind (arith, nat_tests)

-- names that a test tells apart differ
pub text_same : (a b : List ℕ) → a ≡ b → pointwise nat_eq a b ≡ true
text_same a b e = ap (pointwise nat_eq a) (sym e) ∙ nat_list_eq_equiv.refl a

pub texts_differ : (a b : List ℕ) → pointwise nat_eq a b ≡ false → a ≢ b
texts_differ a b h e = let yes : true ≡ false = sym (text_same a b e) ∙ h in cc

pub other_half : (a b : Bool) → b ≡ true → (not a && b) ≡ false → IsTrue a
other_half true b h e = refl
other_half false true h e = absurd (cc)
other_half false false h e = absurd (cc)
