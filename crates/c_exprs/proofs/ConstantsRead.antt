-- Constants are read exactly.
use Rattle.std.proofs.Common.{◌≡◌, ℕ, zero, suc, ◌<◌, ◌+◌, ◌^◌, ◌%◌, List, [], ◌∷◌, ◌++◌, true, false}
use Rattle.std.proofs.Common.{Some, option_map, option_and_then, refl, ap, subst, ◌∙◌, arith, ◌⊎◌, inl, inr}
use Rattle.std.specs.Prelude.{ℤ, pos, negsuc, decimal}
use Rattle.std.proofs.lemmas.Bool.Decides.{nat_tests}
use Rattle.std.proofs.lemmas.Fmt.{decimal_by_steps}
use Rattle.c_tokens.specs.Tokens.{Token, word}
use Rattle.c_tokens.specs.Marks.{minus}
use Rattle.c_tokens.specs.Parsing.{after, begins, is_constant, begins_digit}
use Rattle.c_tokens.specs.WordParsing.{number_of}
use Rattle.c_tokens.proofs.Exact.{Reads, Any, Decodes, bind_some, map_some, some_is, begins_again, behind_reads}
use Rattle.c_tokens.proofs.Exact.{choose_reads, known_reads, word_reads}
use Rattle.c_tokens.proofs.WordsRead.{number_decodes}
use Rattle.c_exprs.specs.Forms.{ConstantFits}
use Rattle.c_exprs.specs.Spelling.{constant_spelled}
use Rattle.c_exprs.specs.ExprParsing.{positive_of, below_zero, negative_of, constant_at}

abbrev IsPositive : ℤ → Type 0
IsPositive (pos n) = n < 2 ^ 63
IsPositive (negsuc n) = ⊥

abbrev IsNegative : ℤ → Type 0
IsNegative (pos n) = ⊥
IsNegative (negsuc n) = n < 2 ^ 63

abbrev positive_text : ℤ → List ℕ
positive_text (pos n) = decimal n
positive_text (negsuc n) = []

abbrev negative_text : ℤ → List ℕ
negative_text (pos n) = []
negative_text (negsuc n) = decimal (suc n)

positive_again : (z : ℤ) → IsPositive z → positive_of (positive_text z) ≡ Some z
positive_again (pos n) h = ap (option_map pos) ((number_decodes (2 ^ 63) (omega arith)).again n h)
positive_again (negsuc n) h = absurd h

negative_again : (z : ℤ) → IsNegative z → negative_of (negative_text z) ≡ Some z
negative_again (pos n) h = absurd h
negative_again (negsuc n) h =
    ap (option_and_then below_zero) ((number_decodes (2 ^ 63 + 1) (omega arith)).again (suc n) (omega arith))

below_some : (m : ℕ) (z : ℤ) → below_zero m ≡ Some z → m < 2 ^ 63 + 1 → IsNegative z × (decimal m ≡ negative_text z)
below_some zero z e h = absurd cc
below_some (suc n) z e h =
    let q : negsuc n ≡ z = some_is (negsuc n) z e in
    subst (λ x. IsNegative x × (decimal (suc n) ≡ negative_text x)) q (omega arith, refl)

negative_decodes : Decodes IsNegative negative_text negative_of
negative_decodes =
    let d = number_decodes (2 ^ 63 + 1) (omega arith) in
    record {
      again = negative_again;
      sound = λ w z e.
          let m = bind_some below_zero (number_of (2 ^ 63 + 1) w) z e in
          let s = d.sound w m.0 m.1 in
          let t = below_some m.0 z m.2 s.0 in
          (t.0, s.1 ∙ t.1);
    }

positive_decodes : Decodes IsPositive positive_text positive_of
positive_decodes =
    let d = number_decodes (2 ^ 63) (omega arith) in
    record {
      again = positive_again;
      sound = λ w z e.
          let m = map_some pos (number_of (2 ^ 63) w) z e in
          let s = d.sound w m.0 m.1 in
          subst (λ x. IsPositive x × (w ≡ positive_text x)) m.2 s;
    }

one_of_two : (z : ℤ) → ConstantFits z → IsNegative z ⊎ IsPositive z
one_of_two (pos n) h = inr h
one_of_two (negsuc n) h = inl h

both_fit : (z : ℤ) → IsNegative z ⊎ IsPositive z → ConstantFits z
both_fit (pos n) (inl h) = absurd h
both_fit (pos n) (inr h) = h
both_fit (negsuc n) (inl h) = h
both_fit (negsuc n) (inr h) = absurd h

is_negative : (z : ℤ) (rest : List Token) → IsNegative z → Any rest
    → begins (minus ∷ []) (constant_spelled z ++ rest) ≡ true
is_negative (pos n) rest h k = absurd h
is_negative (negsuc n) rest h k = begins_again (minus ∷ []) _

not_negative : (z : ℤ) (rest : List Token) → IsPositive z → Any rest
    → begins (minus ∷ []) (constant_spelled z ++ rest) ≡ false
unfolding begins after
not_negative (pos n) rest h k = refl
not_negative (negsuc n) rest h k = absurd h

same_negative : (z : ℤ) → IsNegative z → constant_spelled z ≡ (minus ∷ []) ++ (word (negative_text z) ∷ [])
same_negative (pos n) h = absurd h
same_negative (negsuc n) h = refl

same_positive : (z : ℤ) → IsPositive z → constant_spelled z ≡ word (positive_text z) ∷ []
same_positive (pos n) h = refl
same_positive (negsuc n) h = absurd h

pub constant_reads : Reads Any ConstantFits constant_spelled constant_at
unfolding constant_at
constant_reads =
    known_reads one_of_two both_fit (λ z h. refl)
    (choose_reads (begins (minus ∷ [])) is_negative not_negative
    (known_reads (λ z h. h) (λ z h. h) same_negative (behind_reads (minus ∷ []) (word_reads negative_decodes)))
    (known_reads (λ z h. h) (λ z h. h) same_positive (word_reads positive_decodes)))

-- a number begins with a digit
abbrev StartsDigit : List ℕ → Type 0
StartsDigit w = begins_digit w ≡ true

first_stays : (w v : List ℕ) → StartsDigit w → StartsDigit (w ++ v)
first_stays [] v h = absurd cc
first_stays (b ∷ w) v h = h

digit_first : (m : ℕ) → m < 10 → StartsDigit ((48 + m) ∷ [])
digit_first m h = grind (arith, nat_tests)

decimal_first : (n : ℕ) → n < 2 ^ 64 → StartsDigit (decimal n)
decimal_first n h =
    decimal_by_steps (λ m ds. StartsDigit ds)
    (λ m l. digit_first m l)
    (λ m ds l w. first_stays ds ((48 + m % 10) ∷ []) w)
    n h

pub constant_first : (z : ℤ) (rest : List Token) → ConstantFits z → is_constant (constant_spelled z ++ rest) ≡ true
unfolding is_constant
constant_first (pos n) rest h = decimal_first n (omega arith)
constant_first (negsuc n) rest h = refl
