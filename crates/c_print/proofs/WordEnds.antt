-- Bytes whose last token may be a word that goes on, and what ends it.
use Rattle.std.proofs.Common.{◌≡◌, ℕ, Bool, true, false, List, [], ◌∷◌, ◌++◌, Some, option_map, refl, sym, ap, ◌∙◌}
use Rattle.std.proofs.Common.{append_assoc}
use Rattle.dt_text.specs.Pieces.{Piece, text, pieces_text}
use Rattle.c_tokens.specs.Tokens.{Token, word, Kind, letter, space, single, star, slash, equals, dash, above, other}
use Rattle.c_tokens.specs.Tokens.{kind, between, in_word, put, begin, in_word_step, read, and_then}
use Rattle.c_tokens.proofs.Lexing.{Lexes, lexes_append}
use Rattle.c_tokens.proofs.Seeing.{AllNamed, see, as_seen, read-append, put-and_then}

-- the bytes have these tokens; the last of them has ended, or is a word that goes on
pub data Opens (bytes : List ℕ) (ts : List Token) : Type 0 where
  closed : Lexes bytes ts → Opens bytes ts
  in_last : (us : List Token) (w : List ℕ) → read bytes between ≡ Some (us, in_word w) → us ++ word w ∷ [] ≡ ts
      → Opens bytes ts

pub pieces_open : (ps : List Piece) (us : List Token) (w : List ℕ) → AllNamed ps → see ps between ≡ Some (us, in_word w)
    → Opens (pieces_text ps) (us ++ word w ∷ [])
pieces_open ps us w named is = in_last us w (as_seen ps between (us, in_word w) named is) refl

pub open_after : {a b : List ℕ} {ts us : List Token} → Lexes a ts → Opens b us → Opens (a ++ b) (ts ++ us)
open_after l (closed k) = closed (lexes_append l k)
open_after {a = a} {b = b} {ts = ts} l (in_last us w is e) =
    in_last (ts ++ us) w
    (read-append a b between ∙ ap (and_then (read b)) l.tokens ∙ ap (option_map (put ts)) is)
    (append_assoc ts us (word w ∷ []) ∙ ap (λ x. ts ++ x) e)

-- a word ends where the bytes begin
pub record EndWords (bytes : List ℕ) : Type 0 where
  pub ends : (w : List ℕ) → read bytes (in_word w) ≡ option_map (put (word w ∷ [])) (read bytes between)

abbrev pub separates : Kind → Bool
separates letter = false
separates k = true

step_after_word : (k : Kind) (w : List ℕ) (b : ℕ) → separates k ≡ true
    → in_word_step w k b ≡ option_map (put (word w ∷ [])) (begin k b)
step_after_word letter w b h = cc
step_after_word space w b h = refl
step_after_word single w b h = refl
step_after_word star w b h = refl
step_after_word slash w b h = refl
step_after_word equals w b h = refl
step_after_word dash w b h = refl
step_after_word above w b h = refl
step_after_word other w b h = refl

ends_after : (b : ℕ) (bs w : List ℕ) → separates (kind b) ≡ true
    → read (b ∷ bs) (in_word w) ≡ option_map (put (word w ∷ [])) (read (b ∷ bs) between)
unfolding read
ends_after b bs w h =
    ap (and_then (read bs)) (step_after_word (kind b) w b h)
    ∙ put-and_then (word w ∷ []) (read bs) (begin (kind b) b)

-- by a byte of no word
pub pieces_end : (b : ℕ) (bs : List ℕ) (ps : List Piece) → separates (kind b) ≡ true
    → EndWords (pieces_text (text (b ∷ bs) ∷ ps))
unfolding pieces_text
pieces_end b bs ps h = record { ends = λ w. ends_after b (bs ++ pieces_text ps) w h }

pub end_by_first : (a b : List ℕ) → EndWords a → EndWords (a ++ b)
end_by_first a b h = record {
  ends = λ w.
      read-append a b (in_word w)
      ∙ ap (and_then (read b)) (h.ends w)
      ∙ put-and_then (word w ∷ []) (read b) (read a between)
      ∙ ap (option_map (put (word w ∷ []))) (sym (read-append a b between));
}

pub close : {a b : List ℕ} {ts us : List Token} → EndWords b → Opens a ts → Lexes b us → Lexes (a ++ b) (ts ++ us)
close h (closed l) k = lexes_append l k
close {a = a} {b = b} {us = us} h (in_last vs w is e) k = record {
  tokens =
      read-append a b between
      ∙ ap (and_then (read b)) is
      ∙ ap (option_map (put vs)) (h.ends w ∙ ap (option_map (put (word w ∷ []))) k.tokens)
      ∙ ap (λ x. Some (x, between)) (sym (append_assoc vs (word w ∷ []) us) ∙ ap (λ x. x ++ us) e);
}
