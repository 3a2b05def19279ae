-- Bytes that stand between tokens, and their tokens: a line by its pieces, and lines one behind another.
use Rattle.std.proofs.Common.{◌≡◌, ℕ, List, [], ◌∷◌, ◌++◌, Some, option_map, refl, ap, ◌∙◌, append-nil}
use Rattle.std.specs.Prelude.{flat_map}
use Rattle.std.specs.List.{All}
use Rattle.std.proofs.lemmas.List.Elements.{All-head, All-tail}
use Rattle.dt_text.specs.Pieces.{Piece, pieces_text}
use Rattle.c_tokens.specs.Tokens.{Token, between, put, and_then, read, whole, tokens_of}
use Rattle.c_tokens.proofs.Seeing.{AllNamed, see, as_seen, read-append}

-- the bytes have these tokens, and the last of them has ended
pub record Lexes (bytes : List ℕ) (ts : List Token) : Type 0 where
  pub tokens : read bytes between ≡ Some (ts, between)

pub line_lexes : (ps : List Piece) (ts : List Token) → AllNamed ps → see ps between ≡ Some (ts, between)
    → Lexes (pieces_text ps) ts
line_lexes ps ts named is = record { tokens = as_seen ps between (ts, between) named is }

pub lexes_none : Lexes [] []
unfolding read
lexes_none = record { tokens = refl }

pub lexes_append : {a b : List ℕ} {ts us : List Token} → Lexes a ts → Lexes b us → Lexes (a ++ b) (ts ++ us)
lexes_append {a = a} {b = b} {ts = ts} p q =
    record { tokens = read-append a b between ∙ ap (and_then (read b)) p.tokens ∙ ap (option_map (put ts)) q.tokens }

pub lexes_each : {A : Type 0} (P : A → Type 0) (f : A → List ℕ) (g : A → List Token)
    → ((x : A) → P x → Lexes (f x) (g x)) → (xs : List A) → All P xs → Lexes (flat_map f xs) (flat_map g xs)
lexes_each P f g one [] h = lexes_none
lexes_each P f g one (x ∷ xs) h = lexes_append (one x (All-head P x xs h)) (lexes_each P f g one xs (All-tail P x xs h))

pub tokens_from : (bytes : List ℕ) (ts : List Token) → Lexes bytes ts → tokens_of bytes ≡ Some ts
tokens_from bytes ts l = ap whole l.tokens ∙ ap Some (append-nil ts)
