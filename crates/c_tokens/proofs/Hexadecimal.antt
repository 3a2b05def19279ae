-- Numbers by their hexadecimal digits.
use Rattle.std.proofs.Common.{◌≡◌, ℕ, zero, suc, ◌<◌, ◌≤◌, ◌+◌, ◌*◌, ◌^◌, ◌%◌, ◌/◌, List, [], ◌∷◌, ◌++◌, length, take}
use Rattle.std.proofs.Common.{drop, get_or, Bool, true, false, Option, Some, None, ◌⊎◌, inl, inr, refl, sym, ap, ◌∙◌}
use Rattle.std.proofs.Common.{subst, arith, add-one, length-append, lit<, lit≤}
use Rattle.std.specs.Prelude.{nat_eq, nat_lt, codes}
use Rattle.std.specs.Fmt.{digit_glyph}
use Rattle.std.specs.Cmp.Lexicographic.{pointwise}
use Rattle.std.proofs.lemmas.Bool.Decides.{nat_tests}
use Rattle.std.proofs.Math.Nat.{pow-suc, pow-le-pow_right}
use Rattle.std.proofs.Math.Seq.{get_or-append_seam}
use Rattle.std.proofs.lemmas.List.{take_more, take_all, get_or_append_left, append_cancel_left}
use Rattle.dt_values.specs.declared.width.Width.{Width}
use Rattle.dt_values.specs.declared.width.Width.TheVariants.{W16, W32, W64}
use Rattle.dt_values.specs.Widths.{width_bits}
use Rattle.dt_text.specs.Hexadecimal.{hex}
use Rattle.c_tokens.specs.Words.{hex_length, IsNumber, hex_bytes}
use Rattle.c_tokens.proofs.Fronts.{behind_front, not_behind}

pub no_digits : (v : ℕ) → [] ≡ hex 0 v
unfolding hex
no_digits v = refl

-- one digit more
pub hex_more : (ds : List ℕ) (i b v d : ℕ) → i < length ds → b ≡ get_or ds i 0 → d < 16 → b ≡ digit_glyph false d
    → take i ds ≡ hex i v
    → take (i + 1) ds ≡ hex (i + 1) (v * 16 + d)
unfolding hex
hex_more ds i b v d h at few is before =
    let high : (v * 16 + d) / 16 ≡ v = omega arith in
    let low : (v * 16 + d) % 16 ≡ d = omega arith in
    let same : get_or ds i 0 ≡ digit_glyph false ((v * 16 + d) % 16) = sym at ∙ is ∙ ap (digit_glyph false) (sym low) in
    take_more ds i 0 h
    ∙ (λ j. (before ∙ ap (hex i) (sym high)) j ++ same j ∷ [])
    ∙ ap (λ k. hex k (v * 16 + d)) (sym (add-one i))

pub hex_below : (i v d : ℕ) → v < 16 ^ i → d < 16 → v * 16 + d < 16 ^ (i + 1)
hex_below i v d h few = omega (arith, pow-suc 16 i, ap (λ k. 16 ^ k) (add-one i))

pub hex_few : (i k v : ℕ) → i < k → k ≤ 16 → v < 16 ^ i → v < 2 ^ 60
hex_few i k v h l below =
    let most : 16 ^ i ≤ 16 ^ 15 = pow-le-pow_right (lit< tt) {i = i} {j = 15} (omega arith) in
    omega (arith, most)

pub length-hex : (k n : ℕ) → length (hex k n) ≡ k
unfolding hex
length-hex zero n = refl
length-hex (suc k) n =
    omega (arith, length-append (hex k (n / 16)) (digit_glyph false (n % 16) ∷ []), length-hex k (n / 16))

-- each of the digits stands for a number
abbrev IsDigit : ℕ → Type 0
IsDigit b = (d : ℕ) × (d < 16) × (b ≡ digit_glyph false d)

last_or_not : (i k : ℕ) → i < suc k → (i < k) ⊎ (i ≡ k)
last_or_not i k h = by_test i k h (nat_lt i k) refl where
  by_test : (i k : ℕ) → i < suc k → (b : Bool) → nat_lt i k ≡ b → (i < k) ⊎ (i ≡ k)
  by_test i k h true e = inl (grind (arith, nat_tests))
  by_test i k h false e = inr (grind (arith, nat_tests))

digit_by : (front : List ℕ) (k i d : ℕ) → length front ≡ k → d < 16 → (i < k → IsDigit (get_or front i 0))
    → (i < k) ⊎ (i ≡ k)
    → IsDigit (get_or (front ++ digit_glyph false d ∷ []) i 0)
digit_by front k i d len few before (inl l) =
    subst IsDigit (sym (get_or_append_left front (digit_glyph false d ∷ []) 0 i (omega (arith, len)))) (before l)
digit_by front k i d len few before (inr e) =
    let there = ap (λ j. get_or (front ++ digit_glyph false d ∷ []) j 0) (e ∙ sym len) in
    (d, few, there ∙ get_or-append_seam front (digit_glyph false d) [] 0)

digit_at : (k n i : ℕ) → i < k → IsDigit (get_or (hex k n) i 0)
unfolding hex
digit_at zero n i h = absurd (omega arith)
digit_at (suc k) n i h =
    digit_by (hex k (n / 16)) k i (n % 16) (length-hex k (n / 16)) (omega arith)
    (digit_at k (n / 16) i) (last_or_not i k h)

-- a byte that is no digit
pub no_digit : (ds : List ℕ) (i b : ℕ) → i < length ds → b ≡ get_or ds i 0
    → ((d : ℕ) → d < 16 → b ≡ digit_glyph false d → ⊥)
    → (n : ℕ) → n < 16 ^ length ds → ds ≡ hex (length ds) n → ⊥
no_digit ds i b h at none n below e =
    let found = digit_at (length ds) n i h in
    none found.0 found.1 (at ∙ ap (λ l. get_or l i 0) e ∙ found.2)

pub hex_all : (ds : List ℕ) (i v : ℕ) → length ds ≤ i → i ≤ length ds → take i ds ≡ hex i v → v < 16 ^ i
    → (v < 16 ^ length ds) × (ds ≡ hex (length ds) v)
hex_all ds i v h l is below =
    let all : i ≡ length ds = omega arith in
    (subst (λ k. v < 16 ^ k) all below, subst (λ k. ds ≡ hex k v) all (sym (take_all i ds h) ∙ is))

-- what has at most as many bits as a word has at most as many digits
fits_digits : (w : Width) (m : ℕ) → m < 2 ^ width_bits w → m < 16 ^ hex_length w
fits_digits W16 m h = h
fits_digits W32 m h = h
fits_digits W64 m h = h

fits_bits : (w : Width) (m : ℕ) → m < 16 ^ hex_length w → m < 2 ^ width_bits w
fits_bits W16 m h = h
fits_bits W32 m h = h
fits_bits W64 m h = h

pub few_digits : (w : Width) → hex_length w ≤ 16
few_digits W16 = lit≤ tt
few_digits W32 = lit≤ tt
few_digits W64 = lit≤ tt

-- a word of this width, by its digits
pub hex_word_by : (w : Width) (word digits : List ℕ) (r : Option ℕ)
    → pointwise nat_eq (take 2 word) (codes "0x") ≡ true → digits ≡ drop 2 word → length digits ≡ hex_length w
    → IsNumber (16 ^ length digits) (hex (length digits)) digits r → IsNumber (2 ^ width_bits w) (hex_bytes w) word r
hex_word_by w word digits None h cut len is = λ n below e.
    is n (subst (λ k. n < 16 ^ k) (sym len) (fits_digits w n below))
    (append_cancel_left (codes "0x") digits (hex (length digits) n)
    (sym (behind_front (codes "0x") word digits h cut) ∙ e ∙ ap (λ k. codes "0x" ++ hex k n) (sym len)))
hex_word_by w word digits (Some n) h cut len is = (
  fits_bits w n (subst (λ k. n < 16 ^ k) len is.0),
  behind_front (codes "0x") word digits h cut ∙ ap (λ l. codes "0x" ++ l) is.1 ∙ ap (λ k. codes "0x" ++ hex k n) len,
)

pub no_hex_front : (w : Width) (word : List ℕ) → pointwise nat_eq (take 2 word) (codes "0x") ≡ false → (n : ℕ)
    → n < 2 ^ width_bits w → word ≡ hex_bytes w n → ⊥
no_hex_front w word h n below e = not_behind (codes "0x") word (hex (hex_length w) n) h e

pub no_hex_length : (w : Width) (word digits : List ℕ) → digits ≡ drop 2 word → (length digits ≡ hex_length w → ⊥)
    → (n : ℕ) → n < 2 ^ width_bits w → word ≡ hex_bytes w n → ⊥
no_hex_length w word digits cut other n below e = other (ap length (cut ∙ ap (drop 2) e) ∙ length-hex (hex_length w) n)

pub ruleset hexadecimal_words = (no_hex_front, no_hex_length, hex_word_by, few_digits)
