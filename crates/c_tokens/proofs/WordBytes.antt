-- Words are letters: names, and numbers in decimal and hexadecimal.
use Rattle.std.proofs.Common.{◌≡◌, ℕ, zero, suc, ◌<◌, ◌+◌, ◌%◌, ◌/◌, ◌^◌, List, [], ◌∷◌, ◌++◌, false, refl, sym, ap}
use Rattle.std.proofs.Common.{◌∙◌, arith, length-append, length, ◌&&◌, lit<}
use Rattle.std.specs.Fmt.{digit_glyph}
use Rattle.std.proofs.lemmas.Fmt.{decimal_by_steps}
use Rattle.std.proofs.lemmas.Bool.Decides.{nat_tests}
use Rattle.std.specs.Prelude.{IsTrue, nat_lt, nat_le, codes, decimal}
use Rattle.std.specs.List.{list_all}
use Rattle.dt_values.specs.Names.{is_name_byte, IsName}
use Rattle.dt_values.specs.declared.name.TheConstants.{LONGEST_NAME}
use Rattle.dt_text.specs.Hexadecimal.{hex}
use Rattle.c_tokens.specs.Bytes.{Letters, IsWord}
use Rattle.c_tokens.proofs.Bytes.{both_true, letters-append, letters-cons}

pub word-append : (a b : List ℕ) → IsWord a → Letters b → IsWord (a ++ b)
word-append a b h k = record {
  some = omega (arith, length-append a b, h.some);
  letters = letters-append a b h.letters k;
}

-- sixteen digits, one by one
glyph_letter : (d : ℕ) → d < 16 → IsTrue (is_name_byte (digit_glyph false d))
glyph_letter zero h = refl
glyph_letter (suc zero) h = refl
glyph_letter (suc (suc zero)) h = refl
glyph_letter (suc (suc (suc zero))) h = refl
glyph_letter (suc (suc (suc (suc zero)))) h = refl
glyph_letter (suc (suc (suc (suc (suc zero))))) h = refl
glyph_letter (suc (suc (suc (suc (suc (suc zero)))))) h = refl
glyph_letter (suc (suc (suc (suc (suc (suc (suc zero))))))) h = refl
glyph_letter (suc (suc (suc (suc (suc (suc (suc (suc zero)))))))) h = refl
glyph_letter (suc (suc (suc (suc (suc (suc (suc (suc (suc zero))))))))) h = refl
glyph_letter (suc (suc (suc (suc (suc (suc (suc (suc (suc (suc zero)))))))))) h = refl
glyph_letter (suc (suc (suc (suc (suc (suc (suc (suc (suc (suc (suc zero))))))))))) h = refl
glyph_letter (suc (suc (suc (suc (suc (suc (suc (suc (suc (suc (suc (suc zero)))))))))))) h = refl
glyph_letter (suc (suc (suc (suc (suc (suc (suc (suc (suc (suc (suc (suc (suc zero))))))))))))) h = refl
glyph_letter (suc (suc (suc (suc (suc (suc (suc (suc (suc (suc (suc (suc (suc (suc zero)))))))))))))) h = refl
glyph_letter (suc (suc (suc (suc (suc (suc (suc (suc (suc (suc (suc (suc (suc (suc (suc zero))))))))))))))) h = refl
glyph_letter (suc (suc (suc (suc (suc (suc (suc (suc (suc (suc (suc (suc (suc (suc (suc (suc d)))))))))))))))) h =
    absurd (omega arith)

hex_letters : (k n : ℕ) → Letters (hex k n)
unfolding hex
hex_letters zero n = refl
hex_letters (suc k) n = letters-append (hex k (n / 16)) (digit_glyph false (n % 16) ∷ []) (hex_letters k (n / 16))
    (letters-cons (digit_glyph false (n % 16)) [] (glyph_letter (n % 16) (omega arith)) refl)

pub hex_word_is : (k n : ℕ) → 0 < k → IsWord (hex k n)
unfolding hex
hex_word_is zero n h = absurd (omega arith)
hex_word_is (suc k) n h = record {
  some = omega (arith, length-append (hex k (n / 16)) (digit_glyph false (n % 16) ∷ []));
  letters = hex_letters
      (suc k) n;
}

digit_is_glyph : (d : ℕ) → d < 10 → digit_glyph false d ≡ 48 + d
digit_is_glyph d h = grind (arith, nat_tests)

one_digit : (n : ℕ) → n < 10 → IsTrue (is_name_byte (48 + n))
one_digit n h = ap is_name_byte (sym (digit_is_glyph n h)) ∙ glyph_letter n (omega arith)

pub decimal_word_is : (n : ℕ) → n < 2 ^ 64 → IsWord (decimal n)
decimal_word_is n h =
    decimal_by_steps (λ m ds. IsWord ds)
    (λ m l. record { some = omega arith; letters = letters-cons (48 + m) [] (one_digit m l) refl })
    (λ m ds l w. word-append ds ((48 + m % 10) ∷ []) w
    (letters-cons (48 + m % 10) [] (one_digit (m % 10) (omega arith)) refl))
    n h

some_bytes : (n : ℕ) → IsTrue (nat_lt 0 n) → 0 < n
some_bytes n h = grind (arith, nat_tests)

pub name_is_word : (bytes : List ℕ) → IsName bytes → IsWord bytes
name_is_word bytes h =
    let p = both_true (nat_lt 0 (length bytes)) (nat_le (length bytes) LONGEST_NAME && list_all is_name_byte bytes) h in
    let q = both_true (nat_le (length bytes) LONGEST_NAME) (list_all is_name_byte bytes) p.1 in
    record { some = some_bytes (length bytes) p.0; letters = q.1 }

-- the fixed parts of words
pub underscore : IsWord (codes "_")
underscore = record { some = lit< tt; letters = refl }
