-- Words and tokens that are told apart.
use Rattle.std.proofs.Common.{◌≡◌, ℕ, ◌<◌, List, [], ◌∷◌, ◌++◌, length, Bool, true, false, ◌==◌, ◌&&◌, refl, sym, ap}
use Rattle.std.proofs.Common.{◌∙◌, arith, length-append}
use Rattle.std.specs.Prelude.{codes}
use Rattle.std.proofs.lemmas.Bool.Decides.{nat_tests}
use Rattle.c_tokens.specs.Tokens.{Token, word, mark}
use Rattle.c_subset.specs.Programs.{Name}

pub word_of : (v w : List ℕ) → word v ≡ word w → v ≡ w
word_of v w e = cc

-- the words that two lists begin with
pub first_word : (v w : List ℕ) (a b : List Token) → word v ∷ a ≡ word w ∷ b → v ≡ w
first_word v w a b e = cc

pub mark_no_word : (w : List ℕ) (c : ℕ) (a b : List Token) → word w ∷ a ≡ mark c ∷ b → ⊥
mark_no_word w c a b e = cc

-- fixed words are told apart by computing
abbrev pub same_bytes : List ℕ → List ℕ → Bool
same_bytes [] [] = true
same_bytes [] (w ∷ ws) = false
same_bytes (v ∷ vs) [] = false
same_bytes (v ∷ vs) (w ∷ ws) = v == w && same_bytes vs ws

same_bytes_self : (v : List ℕ) → same_bytes v v ≡ true
same_bytes_self [] = refl
same_bytes_self (x ∷ v) = let h : same_bytes v v ≡ true = same_bytes_self v in let k : (x == x) ≡ true =
    grind (arith, nat_tests) in rw (k, h) refl

pub differ : (v w : List ℕ) → same_bytes v w ≡ false → v ≡ w → ⊥
differ v w h e = let f : true ≡ false = sym (same_bytes_self v) ∙ ap (same_bytes v) e ∙ h in cc

-- an extraction's function is longer than each other word that stands there
pub long : (d x w : Name) → length w < 9 → d ++ codes "_extract_" ++ x ≡ w → ⊥
long d x w h e = omega (
  arith,
  length-append (d ++ codes "_extract_") x,
  length-append d
      (codes "_extract_"),
  ap length e,
)
