-- Pieces of a text between its white space, and of a file between its LFs, one more at a time.
use Rattle.std.proofs.Common.{◌≡◌, ℕ, ◌+◌, ◌-◌, ◌<◌, ◌≤◌, List, [], ◌∷◌, ◌++◌, length, get_or, take, drop, Bool, true, false, refl, ap, sym, ◌∙◌, arith, append_assoc, append-nil, inl, inr, subst}
use Rattle.std.specs.Prelude.{flat_map, All}
use Rattle.std.specs.List.{between, position_or_len, slice_split}
use Rattle.std.proofs.Math.Seq.{take-add}
use Rattle.std.proofs.lemmas.List.{drop-drop, drop_more, drop_all}
use Rattle.std.proofs.lemmas.List.Edits.{length-between, between_more, between_none}
use Rattle.std.proofs.lemmas.List.Elements.{All-same, All-push, All-nil}
use Rattle.std.proofs.lemmas.List.Splits.{slice_split_at, slice_split_none, length-slice_split}
use Rattle.std.proofs.lemmas.Bool.{cases_lt}
use Rattle.std.proofs.lemmas.Slice.{between_to_end}
use Rattle.std.proofs.lemmas.Grind.{common_steps}
use Rattle.dt_lines.specs.Lines.{Piece, is_newline, is_white, is_comment_mark, before_comment, not_empty, pieces_from, tokens_from, without_empty_end, physical_lines}
use Rattle.dt_lines.specs.Gathering.{piece_between}
use Rattle.dt_lines.specs.SoFar.{IsLineEnd}

-- a part of a list, cut at an element
pub between_cut : {X : Type 0} → (xs : List X) (s i e : ℕ) (d : X) → s ≤ i → i < e → e ≤ length xs → between s e xs ≡ between s i xs ++ (get_or xs i d ∷ between (i + 1) e xs)
between_cut {X} xs s i e d h k l =
    let a : e - s ≡ (i - s) + (e - i) = omega arith in
    let b : s + (i - s) ≡ i = omega arith in
    let c : e - i ≡ 1 + (e - (i + 1)) = omega arith in
    let m : i < length xs = omega arith in
    ap (λ n. take n (drop s xs)) a
    ∙ take-add (i - s) (e - i) (drop s xs)
    ∙ ap (λ ys. take (i - s) (drop s xs) ++ take (e - i) ys) (drop-drop (i - s) s xs ∙ ap (λ n. drop n xs) b ∙ drop_more xs i d m)
    ∙ ap (λ n. take (i - s) (drop s xs) ++ take n (get_or xs i d ∷ drop (i + 1) xs)) c
    ∙ ap (λ ys. take (i - s) (drop s xs) ++ ys) (take-add 1 (e - (i + 1)) (get_or xs i d ∷ drop (i + 1) xs))

-- a token is a run of bytes that aren't white space
pub tokens_at : (start : ℕ) (xs : List ℕ) (b : ℕ) (ys : List ℕ) → All (λ x. is_white x ≡ false) xs → is_white b ≡ true
    → tokens_from start (xs ++ b ∷ ys) ≡ not_empty start xs ++ tokens_from (start + length xs + 1) ys
tokens_at start xs b ys h k = ap (λ ts. flat_map (λ p. not_empty p.start p.text) (pieces_from start ts)) (slice_split_at is_white xs b ys h k)

pub tokens_last : (start : ℕ) (xs : List ℕ) → All (λ x. is_white x ≡ false) xs → tokens_from start xs ≡ not_empty start xs
tokens_last start xs h = ap (λ ts. flat_map (λ p. not_empty p.start p.text) (pieces_from start ts)) (slice_split_none is_white xs h) ∙ append-nil (not_empty start xs)

-- one white byte more
pub tokens_more : (bytes : List ℕ) (s i e d : ℕ) (before after : List Piece) → s ≤ i → i < e → e ≤ length bytes
    → All (λ x. is_white x ≡ false) (between s i bytes) → is_white (get_or bytes i d) ≡ true
    → after ≡ before ++ not_empty s (between s i bytes)
    → after ++ tokens_from (i + 1) (between (i + 1) e bytes) ≡ before ++ tokens_from s (between s e bytes)
tokens_more bytes s i e d before after h k l none white is =
    let place : i + 1 ≡ s + length (between s i bytes) + 1 = omega (arith, length-between bytes s i (omega arith)) in
    ap (λ ts. ts ++ tokens_from (i + 1) (between (i + 1) e bytes)) is
    ∙ append_assoc before (not_empty s (between s i bytes)) (tokens_from (i + 1) (between (i + 1) e bytes))
    ∙ ap (λ ts. before ++ ts)
    (ap (λ n. not_empty s (between s i bytes) ++ tokens_from n (between (i + 1) e bytes)) place
    ∙ sym (tokens_at s (between s i bytes) (get_or bytes i d) (between (i + 1) e bytes) none white)
    ∙ ap (tokens_from s) (sym (between_cut bytes s i e d h k l)))

-- the first of several pieces is no last piece
first_piece : (piece : List ℕ) (pieces : List (List ℕ)) → 0 < length pieces → without_empty_end (piece ∷ pieces) ≡ piece ∷ without_empty_end pieces
first_piece piece [] h = absurd (omega arith)
first_piece piece (next ∷ pieces) h = refl

some_pieces : (bytes : List ℕ) → 0 < length (slice_split is_newline bytes)
some_pieces bytes = omega (arith, length-slice_split is_newline bytes)

-- a line that an LF ends
pub physical_line_at : (text rest : List ℕ) → All (λ x. is_newline x ≡ false) text → physical_lines (text ++ 10 ∷ rest) ≡ text ∷ physical_lines rest
physical_line_at text rest none = ap without_empty_end (slice_split_at is_newline text 10 rest none refl) ∙ first_piece text (slice_split is_newline rest) (some_pieces rest)

not_nil : (text : List ℕ) → 0 < length text → without_empty_end (text ∷ []) ≡ text ∷ []
not_nil [] h = absurd (omega arith)
not_nil (b ∷ text) h = refl

-- a line that the file's end ends
pub physical_line_last : (text : List ℕ) → 0 < length text → All (λ x. is_newline x ≡ false) text → physical_lines text ≡ text ∷ []
physical_line_last text some none = ap without_empty_end (slice_split_none is_newline text none) ∙ not_nil text some

-- what lies from a place on, cut at an element
pub drop_cut : {X : Type 0} → (xs : List X) (s i : ℕ) (d : X) → s ≤ i → i < length xs → drop s xs ≡ between s i xs ++ (get_or xs i d ∷ drop (i + 1) xs)
drop_cut {X} xs s i d h k =
    sym (between_to_end xs s (length xs) (omega arith)) ∙ between_cut xs s i (length xs) d h k (omega arith)
    ∙ ap (λ ys. between s i xs ++ (get_or xs i d ∷ ys)) (between_to_end xs (i + 1) (length xs) (omega arith))

-- the physical lines from a place on begin with the one up to the next LF, or to the end
pub physical_more : (bytes : List ℕ) (at end : ℕ) → at < length bytes → IsLineEnd bytes at end
    → physical_lines (drop at bytes) ≡ between at end bytes ∷ physical_lines (drop (end + 1) bytes)
physical_more bytes at end l e =
    elim (cases_lt end (length bytes)) [
      | inl m ↦
          let whole : drop at bytes ≡ between at end bytes ++ (10 ∷ drop (end + 1) bytes) =
          drop_cut bytes at end 0 e.after m ∙ ap (λ b. between at end bytes ++ (b ∷ drop (end + 1) bytes)) (e.newline m) in
          ap physical_lines whole ∙ physical_line_at (between at end bytes) (drop (end + 1) bytes) e.none
      | inr m ↦
          let whole : drop at bytes ≡ between at end bytes = sym (between_to_end bytes at end m) in
          let some : 0 < length (between at end bytes) = omega (arith, length-between bytes at end e.within) in
          let rest : drop (end + 1) bytes ≡ [] = drop_all (end + 1) bytes (omega arith) in
          ap physical_lines whole ∙ physical_line_last (between at end bytes) some e.none
          ∙ ap (λ ys. between at end bytes ∷ physical_lines ys) (sym rest)
    ]

-- what is left of a file from a place on, as its physical lines
abbrev pub lines_left : ℕ → List ℕ → List Piece
lines_left at bytes = pieces_from at (physical_lines (drop at bytes))

pub lines_left_more : (bytes : List ℕ) (at end : ℕ) → at < length bytes → IsLineEnd bytes at end
    → lines_left at bytes ≡ piece_between at end bytes ∷ lines_left (end + 1) bytes
lines_left_more bytes at end l e =
    let place : at + length (between at end bytes) + 1 ≡ end + 1 = omega (arith, length-between bytes at end e.within) in
    ap (pieces_from at) (physical_more bytes at end l e)
    ∙ ap (λ n. piece_between at end bytes ∷ pieces_from n (physical_lines (drop (end + 1) bytes))) place

-- one byte more that doesn't pass
pub none_more : (p : ℕ → Bool) (bytes : List ℕ) (s i d : ℕ) → s ≤ i → i < length bytes → All (λ x. p x ≡ false) (between s i bytes) → p (get_or bytes i d) ≡ false → All (λ x. p x ≡ false) (between s (i + 1) bytes)
none_more p bytes s i d h k none fails =
    let P : ℕ → Type 0 = λ x. p x ≡ false in
    All-same P (between s (i + 1) bytes) (between s i bytes ++ get_or bytes i d ∷ []) (between_more bytes s i d h k) (All-push P (between s i bytes) (get_or bytes i d) none fails)

-- no byte yet
pub none_yet : (p : ℕ → Bool) (bytes : List ℕ) (i : ℕ) → All (λ x. p x ≡ false) (between i i bytes)
none_yet p bytes i = let P : ℕ → Type 0 = λ x. p x ≡ false in All-same P (between i i bytes) [] (between_none bytes i) (All-nil P)

-- the last token of a line
pub tokens_end : (bytes : List ℕ) (s i e : ℕ) (before after whole : List Piece) → e ≤ i → i ≤ e
    → All (λ x. is_white x ≡ false) (between s i bytes) → before ++ tokens_from s (between s e bytes) ≡ whole → after ≡ before ++ not_empty s (between s e bytes) → after ≡ whole
tokens_end bytes s i e before after whole h k none all is =
    let P : ℕ → Type 0 = λ n. All (λ x. is_white x ≡ false) (between s n bytes) in
    let same : i ≡ e = omega arith in
    is ∙ ap (λ ts. before ++ ts) (sym (tokens_last s (between s e bytes) (subst P same none))) ∙ all

-- what stands before the comment of a line
pub before_comment_at : (bytes : List ℕ) (from to n : ℕ) → from ≤ to → to ≤ length bytes → n ≤ length (between from to bytes) → n ≡ position_or_len is_comment_mark (between from to bytes)
    → between from (from + n) bytes ≡ before_comment (between from to bytes)
before_comment_at bytes from to n h k l e =
    let at : between from (from + n) bytes ≡ take n (between from to bytes) = grind (arith, common_steps) in
    at ∙ ap (λ m. take m (between from to bytes)) e
