-- Names and numbers are read exactly.
use Rattle.std.proofs.Common.{◌≡◌, ℕ, zero, suc, ◌<◌, ◌≤◌, ◌+◌, ◌-◌, ◌*◌, ◌^◌, ◌%◌, ◌/◌, List, [], ◌∷◌, ◌++◌, drop, Bool, true, false, cond, ◌==◌, ◌&&◌, Option, Some, None, option_map, option_and_then, refl, sym, ap, subst, ◌∙◌, arith, inl, inr}
use Rattle.std.specs.Prelude.{nat_eq, nat_lt, ℤ, pos, negsuc, codes, decimal, IsSome}
use Rattle.std.specs.Fmt.{digit_glyph}
use Rattle.std.specs.Cmp.Lexicographic.{pointwise}
use Rattle.std.proofs.lemmas.Bool.Decides.{nat_tests}
use Rattle.std.proofs.lemmas.Fmt.{decimal_by_steps, decimal_injective}
use Rattle.std.proofs.Math.Nat.{pow-suc}
use Rattle.dt_values.specs.Names.{is_name, IsName}
use Rattle.dt_values.specs.declared.width.Width.{Width}
use Rattle.dt_values.specs.declared.width.Width.TheVariants.{W16, W32, W64}
use Rattle.dt_values.specs.Widths.{width_bits}
use Rattle.dt_text.specs.Hexadecimal.{hex}
use Rattle.c_tokens.specs.Words.{hex_length, hex_bytes, digits_value, IsNumber, IsNameBehind}
use Rattle.c_tokens.specs.WordParsing.{strip, name_of, name_behind, number_of, glyph_value, hex_value, hex_of}
use Rattle.c_tokens.proofs.Exact.{Decodes, guard_some, bind_some, map_some, some_is, cond_cases, bytes_are, bytes_self}

pub name_decodes : Decodes IsName (λ x. x) name_of
name_decodes = record {
  again = λ x h. ap (λ b. cond b (Some x) None) h;
  sound = λ w x e. let g = guard_some (is_name w) w x e in (subst IsName g.1 g.0, g.1);
}

pub strip_again : (fixed w : List ℕ) → strip fixed (fixed ++ w) ≡ Some w
unfolding strip
strip_again [] w = refl
strip_again (f ∷ fs) w = let e : (f == f) ≡ true = grind (arith, nat_tests) in ap (λ b. cond b (strip fs (fs ++ w)) None) e ∙ strip_again fs w

eq_is : (x y : ℕ) → (x == y) ≡ true → x ≡ y
eq_is x y h = grind (arith, nat_tests)

pub strip_sound : (fixed w x : List ℕ) → strip fixed w ≡ Some x → w ≡ fixed ++ x
unfolding strip
strip_sound [] w x e = grind arith
strip_sound (f ∷ fs) [] x e = absurd cc
strip_sound (f ∷ fs) (b ∷ bs) x e =
    elim (cond_cases (f == b) (strip fs bs) None (Some x) e) [
      | inl h ↦ let same = eq_is f b h.0 in let more = strip_sound fs bs x h.1 in λ i. sym same i ∷ more i
      | inr h ↦ absurd (let k : None ≡ Some x = h.1 in cc)
    ]

pub behind_decodes : (fixed : List ℕ) → Decodes IsName (λ x. fixed ++ x) (name_behind fixed)
behind_decodes fixed = record {
  again = λ x h. ap (option_and_then name_of) (strip_again fixed x) ∙ name_decodes.again x h;
  sound = λ w x e.
      let b = bind_some name_of (strip fixed w) x e in
      let s = name_decodes.sound b.0 x b.2 in
      (s.0, strip_sound fixed w b.0 b.1 ∙ ap (λ l. fixed ++ l) s.1);
}

-- numbers that are compared with their digits
both_true : (a b : Bool) → (a && b) ≡ true → (a ≡ true) × (b ≡ true)
both_true true b h = (refl, h)
both_true false b h = absurd cc

lt_is : (m n : ℕ) → nat_lt m n ≡ true → m < n
lt_is m n h = grind (arith, nat_tests)

is_lt : (m n : ℕ) → m < n → nat_lt m n ≡ true
is_lt m n h = grind (arith, nat_tests)

-- a value that is below a limit and has these digits
abbrev pub checked : (ℕ → List ℕ) → ℕ → ℕ → List ℕ → Option ℕ
checked text limit n w = cond (nat_lt n limit && pointwise nat_eq w (text n)) (Some n) None

checked_decodes : (text : ℕ → List ℕ) (limit : ℕ) (value : List ℕ → ℕ) → ((n : ℕ) → n < limit → value (text n) ≡ n) → Decodes (λ n. n < limit) text (λ w. checked text limit (value w) w)
checked_decodes text limit value back = record {
  again = λ n h.
      ap (λ m. checked text limit m (text n)) (back n h)
      ∙ ap (λ b. cond (b && pointwise nat_eq (text n) (text n)) (Some n) None) (is_lt n limit h)
      ∙ ap (λ b. cond b (Some n) None) (bytes_self (text n));
  sound = λ w n e.
      let g = guard_some (nat_lt (value w) limit && pointwise nat_eq w (text (value w))) (value w) n e in
      let b = both_true (nat_lt (value w) limit) (pointwise nat_eq w (text (value w))) g.0 in
      (subst (λ m. m < limit) g.1 (lt_is (value w) limit b.0), bytes_are w (text (value w)) b.1 ∙ ap text g.1);
}

digits_push : (n : ℕ) (ds : List ℕ) (d : ℕ) → digits_value n (ds ++ d ∷ []) ≡ 10 * digits_value n ds + (d - 48)
unfolding digits_value
digits_push n [] d = refl
digits_push n (x ∷ ds) d = digits_push (10 * n + (x - 48)) ds d

digit_back : (m : ℕ) → digits_value 0 ((48 + m) ∷ []) ≡ m
unfolding digits_value
digit_back m = omega arith

digits_back : (n : ℕ) → n < 2 ^ 64 → digits_value 0 (decimal n) ≡ n
digits_back n h =
    decimal_by_steps (λ m ds. digits_value 0 ds ≡ m)
    (λ m l. digit_back m)
    (λ m ds l w. digits_push 0 ds (48 + m % 10) ∙ (omega (arith, w)))
    n h

pub number_decodes : (limit : ℕ) → limit ≤ 2 ^ 64 → Decodes (λ n. n < limit) decimal (number_of limit)
unfolding number_of
number_decodes limit le = checked_decodes decimal limit (digits_value 0) (λ n h. digits_back n (omega arith))

hex_push : (n : ℕ) (ds : List ℕ) (d : ℕ) → hex_value n (ds ++ d ∷ []) ≡ 16 * hex_value n ds + glyph_value d
unfolding hex_value
hex_push n [] d = refl
hex_push n (x ∷ ds) d = hex_push (16 * n + glyph_value x) ds d

glyph_back : (d : ℕ) → d < 16 → glyph_value (digit_glyph false d) ≡ d
glyph_back d h = grind (arith, nat_tests)

hex_back : (k n : ℕ) → n < 16 ^ k → hex_value 0 (hex k n) ≡ n
unfolding hex hex_value
hex_back zero n h = omega arith
hex_back (suc k) n h =
    let high : hex_value 0 (hex k (n / 16)) ≡ n / 16 = hex_back k (n / 16) (omega (arith, pow-suc 16 k)) in
    let low : glyph_value (digit_glyph false (n % 16)) ≡ n % 16 = glyph_back (n % 16) (omega arith) in
    hex_push 0 (hex k (n / 16)) (digit_glyph false (n % 16)) ∙ (omega (arith, high, low))

pub hex_decodes : (k : ℕ) → Decodes (λ n. n < 16 ^ k) (λ n. codes "0x" ++ hex k n) (hex_of k)
unfolding hex_of
hex_decodes k = checked_decodes (λ n. codes "0x" ++ hex k n) (16 ^ k) (λ w. hex_value 0 (drop 2 w)) (λ n h. hex_back k n h)

-- what has at most as many bits as a word has at most as many digits
pub fits_digits : (w : Width) (m : ℕ) → m < 2 ^ width_bits w → m < 16 ^ hex_length w
fits_digits W16 m h = h
fits_digits W32 m h = h
fits_digits W64 m h = h

pub fits_bits : (w : Width) (m : ℕ) → m < 16 ^ hex_length w → m < 2 ^ width_bits w
fits_bits W16 m h = h
fits_bits W32 m h = h
fits_bits W64 m h = h

pub number_below : (limit : ℕ) (w : List ℕ) (n : ℕ) → number_of limit w ≡ Some n → n < limit
unfolding number_of
number_below limit w n e =
    let g = guard_some (nat_lt (digits_value 0 w) limit && pointwise nat_eq w (decimal (digits_value 0 w))) (digits_value 0 w) n e in
    subst (λ m. m < limit) g.1 (lt_is (digits_value 0 w) limit (both_true (nat_lt (digits_value 0 w) limit) _ g.0).0)

strip_both : (a b w : List ℕ) → strip (a ++ b) w ≡ option_and_then (strip b) (strip a w)
unfolding strip
strip_both [] b w = refl
strip_both (x ∷ a) b [] = refl
strip_both (x ∷ a) b (y ∷ w) = elim (x == y) as (λ t. cond t (strip (a ++ b) w) None ≡ option_and_then (strip b) (cond t (strip a w) None)) [
  | true ↦ strip_both a b w
  | false ↦ refl
]

and_then_again : {A B C : Type 0} (o : Option A) (f : A → Option B) (g : B → Option C) → option_and_then g (option_and_then f o) ≡ option_and_then (λ x. option_and_then g (f x)) o
and_then_again None f g = refl
and_then_again (Some x) f g = refl

pub name_behind_parts : (a b w : List ℕ) → name_behind (a ++ b) w ≡ option_and_then (name_behind b) (strip a w)
name_behind_parts a b w = ap (option_and_then name_of) (strip_both a b w) ∙ and_then_again (strip a w) (strip b) name_of

-- a number with as many digits as a word of the width has
pub hex_word_decodes : (w : Width) → Decodes (λ n. n < 2 ^ width_bits w) (hex_bytes w) (hex_of (hex_length w))
hex_word_decodes w =
    let d = hex_decodes (hex_length w) in
    record {
      again = λ n h. d.again n (fits_digits w n h);
      sound = λ bytes n e. let s = d.sound bytes n e in (fits_bits w n s.0, s.1);
    }

none_found : {A : Type 0} (o : Option A) → ((x : A) → o ≡ Some x → ⊥) → None ≡ o
none_found None h = refl
none_found (Some x) h = absurd (h x refl)

-- what a word is found to spell is what the function finds
pub found_number : (limit : ℕ) (text : ℕ → List ℕ) (f : List ℕ → Option ℕ) → Decodes (λ n. n < limit) text f
    → (w : List ℕ) (r : Option ℕ) → IsNumber limit text w r → r ≡ f w
found_number limit text f d w None h = none_found (f w) (λ n e. let s = d.sound w n e in h n s.0 s.1)
found_number limit text f d w (Some n) h = sym (ap f h.1 ∙ d.again n h.0)

pub hex_found : (w : Width) (bytes : List ℕ) (r : Option ℕ) → IsNumber (2 ^ width_bits w) (hex_bytes w) bytes r
    → r ≡ hex_of (hex_length w) bytes
hex_found w bytes r h = found_number (2 ^ width_bits w) (hex_bytes w) (hex_of (hex_length w)) (hex_word_decodes w) bytes r h

small : List ℕ → Decodes (λ n. n < 2 ^ 32) decimal (number_of (2 ^ 32))
small w = number_decodes (2 ^ 32) (omega arith)

pub small_none : (w : List ℕ) (r : Option ℕ) → IsNumber (2 ^ 64) decimal w r → r ≡ None → r ≡ number_of (2 ^ 32) w
small_none w r h e =
    let none : IsNumber (2 ^ 64) decimal w None = subst (IsNumber (2 ^ 64) decimal w) e h in
    e ∙ none_found (number_of (2 ^ 32) w) (λ n found. let s = (small w).sound w n found in none n (omega (arith, s.0)) s.1)

pub small_some : (w : List ℕ) (r : Option ℕ) (n : ℕ) → IsNumber (2 ^ 64) decimal w r → r ≡ Some n → n < 2 ^ 32
    → Some n ≡ number_of (2 ^ 32) w
small_some w r n h e below =
    let some : IsNumber (2 ^ 64) decimal w (Some n) = subst (IsNumber (2 ^ 64) decimal w) e h in
    sym (ap (number_of (2 ^ 32)) some.1 ∙ (small w).again n below)

pub small_large : (w : List ℕ) (r : Option ℕ) (n : ℕ) → IsNumber (2 ^ 64) decimal w r → r ≡ Some n → 2 ^ 32 ≤ n
    → None ≡ number_of (2 ^ 32) w
small_large w r n h e above =
    let some : IsNumber (2 ^ 64) decimal w (Some n) = subst (IsNumber (2 ^ 64) decimal w) e h in
    none_found (number_of (2 ^ 32) w) (λ m found.
    let s = (small w).sound w m found in
    let same : m ≡ n = decimal_injective m n (omega (arith, s.0)) some.0 (sym s.1 ∙ some.1) in
    absurd (omega (arith, s.0, same)))

pub behind_found : (fixed bytes : List ℕ) (r : Option (List ℕ)) → IsNameBehind fixed bytes r → r ≡ name_behind fixed bytes
behind_found fixed bytes None h =
    none_found (name_behind fixed bytes) (λ n e. let s = (behind_decodes fixed).sound bytes n e in h n s.0 s.1)
behind_found fixed bytes (Some n) h = sym (ap (name_behind fixed) h.1 ∙ (behind_decodes fixed).again n h.0)
