-- Where a comment may begin, or goes on, the token before it has by_ends.
use Rattle.std.proofs.Common.{◌≡◌, ℕ, List, [], ◌∷◌, Option, Some, None, option_map, ◌⊎◌, inl, inr, refl, sym, ap, ◌∙◌}
use Rattle.std.proofs.Common.{subst}
use Rattle.c_tokens.specs.Tokens.{Token, word, mark, Kind, letter, space, star, slash, equals, dash, above, single}
use Rattle.c_tokens.specs.Tokens.{other, Mode, between, in_word, after_equals, after_dash, after_slash, in_comment}
use Rattle.c_tokens.specs.Tokens.{after_star, Read, put, begin, in_word_step, after_equals_step, after_dash_step}
use Rattle.c_tokens.specs.Tokens.{after_slash_step, step, ends}
use Rattle.c_tokens.proofs.Bytes.{letter_or_not, star_or_not, equals_or_not, above_or_not}
use Rattle.c_tokens.proofs.Ends.{word_step, equals_step, dash_step, slash_step}
use Rattle.c_tokens.specs.Before.{last_token}

same_read : (s r : Read) → Some s ≡ Some r → s ≡ r
same_read s r e = cc

-- the tokens that end with a byte, where the text goes on with a comment or its slash
abbrev EndsWith : Read → List Token → Type 0
EndsWith r ts = ends r.1 ≡ None → r.0 ≡ ts

as_read : (s r : Read) (ts : List Token) → Some s ≡ Some r → EndsWith s ts → EndsWith r ts
as_read s r ts e h = subst (λ x. EndsWith x ts) (same_read s r e) h

none_read : {A : Type 0} (r : Read) → None ≡ Some r → A
none_read r e = absurd (cc)

by_begin : (k : Kind) (b : ℕ) (r : Read) → begin k b ≡ Some r → EndsWith r []
by_begin letter b r e = as_read _ r [] e (λ h. refl)
by_begin space b r e = as_read _ r [] e (λ h. refl)
by_begin star b r e = as_read _ r [] e (λ h. absurd (cc))
by_begin slash b r e = as_read _ r [] e (λ h. refl)
by_begin equals b r e = as_read _ r [] e (λ h. refl)
by_begin dash b r e = as_read _ r [] e (λ h. refl)
by_begin above b r e = none_read r e
by_begin single b r e = as_read _ r [] e (λ h. absurd (cc))
by_begin other b r e = none_read r e

by_put : (t : Token) (o : Option Read) (r : Read) → ((s : Read) → o ≡ Some s → EndsWith s [])
    → option_map (put (t ∷ [])) o ≡ Some r → EndsWith r (t ∷ [])
by_put t None r f e = none_read r e
by_put t (Some s) r f e = as_read (put (t ∷ []) s) r (t ∷ []) e (λ h. ap (λ l. t ∷ l) (f s refl h))

by_ends : (t : Token) (k : Kind) (b : ℕ) (r : Read) (o : Option Read) → o ≡ option_map (put (t ∷ [])) (begin k b)
    → o ≡ Some r → EndsWith r (t ∷ [])
by_ends t k b r o is e = by_put t (begin k b) r (by_begin k b) (sym is ∙ e)

by_word : (w : List ℕ) (k : Kind) (b : ℕ) (r : Read) → in_word_step w k b ≡ Some r → (k ≡ letter) ⊎ (k ≡ letter → ⊥)
    → EndsWith r (word w ∷ [])
by_word w k b r e (inl is) = as_read _ r (word w ∷ []) (ap (λ x. in_word_step w x b) (sym is) ∙ e) (λ h. absurd (cc))
by_word w k b r e (inr n) = by_ends (word w) k b r (in_word_step w k b) (word_step k w b n) e

by_equals : (k : Kind) (b : ℕ) (r : Read) → after_equals_step k b ≡ Some r → (k ≡ equals) ⊎ (k ≡ equals → ⊥)
    → EndsWith r (mark 61 ∷ [])
by_equals k b r e (inl is) =
    as_read _ r (mark 61 ∷ []) (ap (λ x. after_equals_step x b) (sym is) ∙ e) (λ h. absurd (cc))
by_equals k b r e (inr n) = by_ends (mark 61) k b r (after_equals_step k b) (equals_step k b n) e

by_dash : (k : Kind) (b : ℕ) (r : Read) → after_dash_step k b ≡ Some r → (k ≡ above) ⊎ (k ≡ above → ⊥)
    → EndsWith r (mark 45 ∷ [])
by_dash k b r e (inl is) = as_read _ r (mark 45 ∷ []) (ap (λ x. after_dash_step x b) (sym is) ∙ e) (λ h. absurd (cc))
by_dash k b r e (inr n) = by_ends (mark 45) k b r (after_dash_step k b) (dash_step k b n) e

by_slash : (k : Kind) (r : Read) → after_slash_step k ≡ Some r → (k ≡ star) ⊎ (k ≡ star → ⊥) → EndsWith r []
by_slash k r e (inl is) = as_read _ r [] (ap after_slash_step (sym is) ∙ e) (λ h. refl)
by_slash k r e (inr n) = none_read r (sym (slash_step k n) ∙ e)

pub comment_begins : (m : Mode) (k : Kind) (b : ℕ) (r : Read) → step m k b ≡ Some r → ends r.1 ≡ None
    → r.0 ≡ last_token m
comment_begins between k b r e = by_begin k b r e
comment_begins (in_word w) k b r e = by_word w k b r e (letter_or_not k)
comment_begins after_equals k b r e = by_equals k b r e (equals_or_not k)
comment_begins after_dash k b r e = by_dash k b r e (above_or_not k)
comment_begins after_slash k b r e = by_slash k r e (star_or_not k)
comment_begins in_comment k b r e = as_read _ r [] e (λ h. refl)
comment_begins after_star k b r e = as_read _ r [] e (λ h. refl)
