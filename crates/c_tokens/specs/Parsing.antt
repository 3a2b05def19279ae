-- Readers of tokens as functions on lists: what they read at the front, and the tokens behind it.
use Rattle.std.specs.Prelude.{ℕ, zero, suc, ◌==◌, nat_lt, nat_eq, Bool, true, false, cond, List, [], ◌∷◌, length, Option}
use Rattle.std.specs.Prelude.{Some, None, option_map, option_and_then, is_some, Result, Ok, Err, ◌≡◌}
use Rattle.std.specs.Cmp.Lexicographic.{pointwise}
use Rattle.c_tokens.specs.Tokens.{Token, word, mark, double_equals, arrow}

abbrev pub Parse : Type 0 → Type 0
Parse A = List Token → Option (A × List Token)

abbrev pub same_token : Token → Token → Bool
same_token (word v) (word w) = pointwise nat_eq v w
same_token (mark b) (mark c) = b == c
same_token double_equals double_equals = true
same_token arrow arrow = true
same_token t u = false

-- what stands behind a fixed run of tokens
unfoldable pub after : List Token → List Token → Option (List Token)
after [] ts = Some ts
after (f ∷ fs) [] = None
after (f ∷ fs) (t ∷ ts) = cond (same_token f t) (after fs ts) None

unfoldable pub begins : List Token → List Token → Bool
begins fixed ts = is_some (after fixed ts)

-- a fixed run, and then what p reads
abbrev pub behind : {A : Type 0} → List Token → Parse A → Parse A
behind fixed p ts = option_and_then p (after fixed ts)

-- what p reads, and then a fixed run
abbrev pub closed : {A : Type 0} → Parse A → List Token → Parse A
closed p fixed ts = option_and_then (λ x. option_map (λ rest. (x.0, rest)) (after fixed x.1)) (p ts)

-- what p reads, and then what q reads, which may depend on it
abbrev pub then_each : {A B : Type 0} → Parse A → (A → Parse B) → Parse (A × B)
then_each p q ts = option_and_then (λ x. option_map (λ y. ((x.0, y.0), y.1)) (q x.0 x.1)) (p ts)

abbrev pub both : {A B : Type 0} → Parse A → Parse B → Parse (A × B)
both p q = then_each p (λ x. q)

-- the same under another form
abbrev pub made : {A B : Type 0} → (A → B) → Parse A → Parse B
made f p ts = option_map (λ x. (f x.0, x.1)) (p ts)

abbrev pub choose : {A : Type 0} → (List Token → Bool) → Parse A → Parse A → Parse A
choose test p q ts = cond (test ts) (p ts) (q ts)

abbrev pub first_word : Parse (List ℕ)
first_word [] = None
first_word (word w ∷ ts) = Some (w, ts)
first_word (mark b ∷ ts) = None
first_word (double_equals ∷ ts) = None
first_word (arrow ∷ ts) = None

-- a word, as far as f knows it
abbrev pub word_as : {A : Type 0} → (List ℕ → Option A) → Parse A
word_as f ts = option_and_then (λ x. option_map (λ a. (a, x.1)) (f x.0)) (first_word ts)

abbrev pub nothing : {A : Type 0} → Parse A
nothing ts = None

abbrev pub found : {A : Type 0} → A → Parse A
found x ts = Some (x, ts)

abbrev pub passes : {A : Type 0} → (A → Bool) → A × List Token → Option (A × List Token)
passes test x = cond (test x.0) (Some x) None

abbrev pub guarded : {A : Type 0} → (A → Bool) → Parse A → Parse A
guarded test p ts = option_and_then (passes test) (p ts)

abbrev pub turn : {A : Type 0} → Parse A → Parse (List A) → Parse (List A)
turn one more ts = option_and_then (λ x. option_map (λ y. (x.0 ∷ y.0, y.1)) (more x.1)) (one ts)

-- The number bounds the items. More than the count of the tokens is always enough.
unfoldable pub many_at : {A : Type 0} → (List Token → Bool) → Parse A → ℕ → Parse (List A)
many_at starts one zero ts = None
many_at starts one (suc n) ts = cond (starts ts) (turn one (many_at starts one n) ts) (Some ([], ts))

-- items, as long as one starts
abbrev pub many : {A : Type 0} → (List Token → Bool) → Parse A → Parse (List A)
many starts one ts = many_at starts one (suc (length ts)) ts

unfoldable pub begins_second : List Token → List Token → Bool
begins_second fixed [] = false
begins_second fixed (t ∷ ts) = begins fixed ts

abbrev pub begins_digit : List ℕ → Bool
begins_digit [] = false
begins_digit (b ∷ w) = nat_lt b 58

-- a number is known by its sign, or by its first byte
unfoldable pub is_constant : List Token → Bool
is_constant [] = false
is_constant (word w ∷ ts) = begins_digit w
is_constant (mark b ∷ ts) = b == 45
is_constant (double_equals ∷ ts) = false
is_constant (arrow ∷ ts) = false

abbrev pub is_nothing : List Token → Bool
is_nothing [] = true
is_nothing (t ∷ ts) = false

-- what p reads, as far as f knows it
abbrev pub tried : {A B : Type 0} → (A → Option B) → Parse A → Parse B
tried f p ts = option_and_then (λ x. option_map (λ b. (b, x.1)) (f x.0)) (p ts)
