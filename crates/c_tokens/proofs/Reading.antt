-- What is read of a text from its first byte on.
use Rattle.std.proofs.Common.{◌≡◌, ℕ, List, [], ◌∷◌, Option, Some, None, option_map, refl, ap, ◌∙◌}
use Rattle.c_tokens.specs.Tokens.{Token, kind, Mode, between, Read, put, begin, step, and_then, read, whole}
use Rattle.c_tokens.proofs.Seeing.{put_none, put_ends, put-and_then}
use Rattle.c_tokens.specs.Before.{last_token, go_on, before}
use Rattle.c_tokens.specs.Reading.{reading, no_token, with_first}

-- a byte that ends no token
pub passes : (b : ℕ) (bs : List ℕ) (m n : Mode) → step m (kind b) b ≡ Some ([], n) → reading (b ∷ bs) m ≡ reading bs n
unfolding reading before read
passes b bs m n e =
    ap (λ r. (go_on (before bs) m r, whole (and_then (read bs) r))) e
    ∙ ap (λ r. (before bs n, whole r)) (put_none (read bs n))

-- a byte that ends a token
pub gives : (t : Token) (b : ℕ) (bs : List ℕ) (m n : Mode) → step m (kind b) b ≡ Some (t ∷ [], n)
    → reading (b ∷ bs) m ≡ with_first (Some t) (reading bs n)
unfolding reading before read
gives t b bs m n e =
    ap (λ r. (go_on (before bs) m r, whole (and_then (read bs) r))) e
    ∙ ap (λ r. (t ∷ before bs n, r)) (put_ends (t ∷ []) (read bs n))

-- a byte that can't be here, with no token before it
pub stops : (b : ℕ) (bs : List ℕ) (m : Mode) → step m (kind b) b ≡ None → last_token m ≡ []
    → reading (b ∷ bs) m ≡ no_token
unfolding reading before read
stops b bs m e h = ap (λ r. (go_on (before bs) m r, whole (and_then (read bs) r))) e ∙ ap (λ l. (l, None)) h

go_on_behind : (t : Token) (m : Mode) (more : Mode → List Token) (r : Option Read) → last_token m ≡ t ∷ []
    → go_on more m (option_map (put (t ∷ [])) r) ≡ t ∷ go_on more between r
go_on_behind t m more None h = h
go_on_behind t m more (Some r) h = refl

-- a byte that doesn't belong to the token before it
pub pends : (t : Token) (b : ℕ) (bs : List ℕ) (m : Mode)
    → step m (kind b) b ≡ option_map (put (t ∷ [])) (begin (kind b) b)
    → last_token m ≡ t ∷ [] → reading (b ∷ bs) m ≡ with_first (Some t) (reading (b ∷ bs) between)
unfolding reading before read
pends t b bs m e h =
    let front = go_on_behind t m (before bs) (begin (kind b) b) h in
    let all = ap whole (put-and_then (t ∷ []) (read bs) (begin (kind b) b))
    ∙ put_ends (t ∷ []) (and_then (read bs) (begin (kind b) b)) in
    ap (λ r. (go_on (before bs) m r, whole (and_then (read bs) r))) e ∙ (λ i. (front i, all i))
