-- The tokens that were found, and those behind them.
use Rattle.std.proofs.Common.{◌≡◌, ℕ, List, [], ◌∷◌, ◌++◌, Option, Some, None, option_map, refl, sym, ap, ◌∙◌}
use Rattle.std.proofs.Common.{append-nil, length, arith}
use Rattle.c_tokens.specs.Tokens.{Token, between, read, tokens_of}
use Rattle.c_tokens.proofs.Seeing.{put_more}
use Rattle.c_tokens.specs.Reading.{Reading, reading, no_token, with_first, as_list}

-- the tokens of a text are those that were found and those of the rest
abbrev pub IsFound : List ℕ → List Token → List ℕ → Type 0
IsFound text found rest = tokens_of text ≡ option_map (λ ts. found ++ ts) (tokens_of rest)

all_read : (text : List ℕ) → (reading text between).1 ≡ tokens_of text
unfolding reading
all_read text = refl

found_more : (found : List Token) (t : Option Token) (r : Reading)
    → option_map (λ ts. found ++ ts) (with_first t r).1 ≡ option_map (λ ts. (found ++ as_list t) ++ ts) r.1
found_more found None r = ap (λ l. option_map (λ ts. l ++ ts) r.1) (sym (append-nil found))
found_more found (Some t) r = sym (put_more found (t ∷ []) r.1)

-- the next token, or none, is found
pub found_next : (text rest behind : List ℕ) (found new : List Token) (t : Option Token) → IsFound text found rest
    → reading rest between ≡ with_first t (reading behind between)
    → new ≡ found ++ as_list t → IsFound text new behind
found_next text rest behind found new t is e more =
    let here : tokens_of rest ≡ (with_first t (reading behind between)).1 = sym (all_read rest) ∙ ap (λ r. r.1) e in
    let next = ap (option_map (λ ts. new ++ ts)) (all_read behind) in
    is ∙ ap (option_map (λ ts. found ++ ts)) here ∙ found_more found t (reading behind between)
    ∙ ap (λ l. option_map (λ ts. l ++ ts) (reading behind between).1) (sym more) ∙ next

-- no token can be next
pub found_no_more : (text rest : List ℕ) (found : List Token) → IsFound text found rest
    → reading rest between ≡ no_token → tokens_of text ≡ None
found_no_more text rest found is e =
    let none : tokens_of rest ≡ None = sym (all_read rest) ∙ ap (λ r. r.1) e in
    is ∙ ap (option_map (λ ts. found ++ ts)) none

nothing_left : (rest : List ℕ) → length rest ≡ 0 → tokens_of rest ≡ Some []
unfolding read
nothing_left [] h = refl
nothing_left (b ∷ bs) h = absurd (omega (arith, h))

-- all are found
pub found_all : (text rest : List ℕ) (found : List Token) → IsFound text found rest → length rest ≡ 0
    → tokens_of text ≡ Some found
found_all text rest found is e = is ∙ ap (option_map (λ ts. found ++ ts)) (nothing_left rest e)
    ∙ ap Some (append-nil found)

pub ruleset found_steps = (found_next, found_no_more, found_all)
