-- All tokens of a text that has some stand before the first place that is none.
use Rattle.std.proofs.Common.{◌≡◌, ℕ, List, [], ◌∷◌, ◌++◌, Option, Some, None, option_map, refl, sym, ap, ◌∙◌}
use Rattle.c_tokens.specs.Tokens.{Token, kind, Mode, between, in_word, after_equals, after_dash, after_slash}
use Rattle.c_tokens.specs.Tokens.{in_comment, after_star, Read, step, and_then, read, ends, whole, tokens_of}
use Rattle.c_tokens.proofs.Seeing.{put_ends}
use Rattle.c_tokens.specs.Before.{last_token, go_on, before, tokens_before}

some_same : {A : Type 0} (x y : A) → Some x ≡ Some y → x ≡ y
some_same x y e = cc

last_as_ends : (m : Mode) (ts : List Token) → ends m ≡ Some ts → last_token m ≡ ts
last_as_ends between ts e = some_same [] ts e
last_as_ends (in_word w) ts e = some_same _ ts e
last_as_ends after_equals ts e = some_same _ ts e
last_as_ends after_dash ts e = some_same _ ts e
last_as_ends after_slash ts e = absurd (cc)
last_as_ends in_comment ts e = absurd (cc)
last_as_ends after_star ts e = absurd (cc)

-- what stands behind the tokens that ended
abbrev Follows : List ℕ → Mode → Type 0
Follows bs m = (ts : List Token) → whole (read bs m) ≡ Some ts → before bs m ≡ ts

behind : (front : List Token) (bs : List ℕ) (n : Mode) (r : Option (List Token)) (ts : List Token) → Follows bs n
    → whole (read bs n) ≡ r → option_map (λ us. front ++ us) r ≡ Some ts
    → front ++ before bs n ≡ ts
behind front bs n None ts f is e = absurd (cc)
behind front bs n (Some us) ts f is e = ap (λ l. front ++ l) (f us is) ∙ some_same (front ++ us) ts e

by_step : (bs : List ℕ) (m : Mode) (r : Option Read) (ts : List Token) → ((n : Mode) → Follows bs n)
    → whole (and_then (read bs) r) ≡ Some ts → go_on (before bs) m r ≡ ts
by_step bs m None ts f e = absurd (cc)
by_step bs m (Some s) ts f e =
    behind s.0 bs s.1 (whole (read bs s.1)) ts (f s.1) refl (sym (put_ends s.0 (read bs s.1)) ∙ e)

read_none : (m : Mode) → whole (read [] m) ≡ ends m
unfolding read
read_none between = refl
read_none (in_word w) = refl
read_none after_equals = refl
read_none after_dash = refl
read_none after_slash = refl
read_none in_comment = refl
read_none after_star = refl

follows : (text : List ℕ) (m : Mode) → Follows text m
unfolding read before
follows [] m ts e = last_as_ends m ts (sym (read_none m) ∙ e)
follows (b ∷ bs) m ts e = by_step bs m (step m (kind b) b) ts (follows bs) e

pub all_before : (text : List ℕ) (tokens : List Token) → tokens_of text ≡ Some tokens → tokens_before text ≡ tokens
all_before text tokens e = follows text between tokens e
