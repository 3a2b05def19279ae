-- Where a token ends, and what is read behind it.
use Rattle.std.proofs.Common.{◌≡◌, ℕ, List, [], ◌∷◌, None, option_map, refl, ap, ◌∙◌}
use Rattle.c_tokens.specs.Tokens.{word, mark, Kind, letter, space, star, slash, equals, dash, above, single, other}
use Rattle.c_tokens.specs.Tokens.{kind, between, in_word, after_equals, after_dash, in_comment, put, begin}
use Rattle.c_tokens.specs.Tokens.{in_word_step, after_equals_step, after_dash_step, after_slash_step, in_comment_step}
use Rattle.c_tokens.specs.Tokens.{after_star_step, and_then, read}
use Rattle.c_tokens.proofs.Seeing.{put-and_then}

pub word_step : (k : Kind) (w : List ℕ) (b : ℕ) → (k ≡ letter → ⊥)
    → in_word_step w k b ≡ option_map (put (word w ∷ [])) (begin k b)
word_step letter w b h = absurd (h refl)
word_step space w b h = refl
word_step star w b h = refl
word_step slash w b h = refl
word_step equals w b h = refl
word_step dash w b h = refl
word_step above w b h = refl
word_step single w b h = refl
word_step other w b h = refl

pub equals_step : (k : Kind) (b : ℕ) → (k ≡ equals → ⊥)
    → after_equals_step k b ≡ option_map (put (mark 61 ∷ [])) (begin k b)
equals_step letter b h = refl
equals_step space b h = refl
equals_step star b h = refl
equals_step slash b h = refl
equals_step equals b h = absurd (h refl)
equals_step dash b h = refl
equals_step above b h = refl
equals_step single b h = refl
equals_step other b h = refl

pub dash_step : (k : Kind) (b : ℕ) → (k ≡ above → ⊥) → after_dash_step k b ≡ option_map (put (mark 45 ∷ [])) (begin k b)
dash_step letter b h = refl
dash_step space b h = refl
dash_step star b h = refl
dash_step slash b h = refl
dash_step equals b h = refl
dash_step dash b h = refl
dash_step above b h = absurd (h refl)
dash_step single b h = refl
dash_step other b h = refl

pub slash_step : (k : Kind) → (k ≡ star → ⊥) → after_slash_step k ≡ None
slash_step letter h = refl
slash_step space h = refl
slash_step star h = absurd (h refl)
slash_step slash h = refl
slash_step equals h = refl
slash_step dash h = refl
slash_step above h = refl
slash_step single h = refl
slash_step other h = refl

pub comment_step : (k : Kind) → (k ≡ star → ⊥) → in_comment_step k ≡ in_comment
comment_step letter h = refl
comment_step space h = refl
comment_step star h = absurd (h refl)
comment_step slash h = refl
comment_step equals h = refl
comment_step dash h = refl
comment_step above h = refl
comment_step single h = refl
comment_step other h = refl

pub star_step : (k : Kind) → (k ≡ star → ⊥) → (k ≡ slash → ⊥) → after_star_step k ≡ in_comment
star_step letter h g = refl
star_step space h g = refl
star_step star h g = absurd (h refl)
star_step slash h g = absurd (g refl)
star_step equals h g = refl
star_step dash h g = refl
star_step above h g = refl
star_step single h g = refl
star_step other h g = refl

pub read_ends_word : (b : ℕ) (bs w : List ℕ) → (kind b ≡ letter → ⊥)
    → read (b ∷ bs) (in_word w) ≡ option_map (put (word w ∷ [])) (read (b ∷ bs) between)
unfolding read
read_ends_word b bs w h = ap (and_then (read bs)) (word_step (kind b) w b h)
    ∙ put-and_then (word w ∷ []) (read bs) (begin (kind b) b)

pub read_ends_equals : (b : ℕ) (bs : List ℕ) → (kind b ≡ equals → ⊥)
    → read (b ∷ bs) after_equals ≡ option_map (put (mark 61 ∷ [])) (read (b ∷ bs) between)
unfolding read
read_ends_equals b bs h = ap (and_then (read bs)) (equals_step (kind b) b h)
    ∙ put-and_then (mark 61 ∷ []) (read bs) (begin (kind b) b)

pub read_ends_dash : (b : ℕ) (bs : List ℕ) → (kind b ≡ above → ⊥)
    → read (b ∷ bs) after_dash ≡ option_map (put (mark 45 ∷ [])) (read (b ∷ bs) between)
unfolding read
read_ends_dash b bs h = ap (and_then (read bs)) (dash_step (kind b) b h)
    ∙ put-and_then (mark 45 ∷ []) (read bs) (begin (kind b) b)
