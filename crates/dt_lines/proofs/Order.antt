-- The tokens of a file's logical lines lie on their own physical lines, in order over all lines, none over another.
use Rattle.std.proofs.Common.{◌≡◌, ℕ, ◌+◌, ◌-◌, get_or, sym, ◌<◌, ◌≤◌, zero, suc, List, [], ◌∷◌, ◌++◌, length, map, take, Bool, true, false, cond, refl, ap, ◌∙◌, subst, arith}
use Rattle.std.specs.Prelude.{flat_map}
use Rattle.std.specs.List.{All, AllPairs, slice_split, onto_first, position_or_len}
use Rattle.std.proofs.lemmas.List.{map-append, length-take}
use Rattle.std.proofs.lemmas.List.Elements.{All-nil, All-cons}
use Rattle.std.proofs.lemmas.List.Kept.{AllPairs-cons}
use Rattle.dt_lines.specs.Lines.{Piece, PlacedLine, is_newline, is_white, is_comment_mark, before_comment, not_empty, pieces_from, without_empty_end, physical_lines}
use Rattle.dt_lines.specs.Lines.{is_blank, ends_in_backslash, without_last, first_line, longer_line, line_tokens, lines_from, go_on, placed_lines}
use Rattle.dt_lines.specs.Spans.{AreSpans, IsBefore, IsWithin, span_of, token_spans}
use Rattle.dt_lines.specs.Places.{LieBetween, LieOnOwnLines, file_spans, line_start, next_start}
use Rattle.dt_lines.specs.declared.line.Span.{Span}
use Rattle.dt_lines.proofs.Choices.{blank_or_holds, end_or_go_on_holds}

-- tokens that lie from a place on, each behind the one before it, and end before another place
abbrev pub TokensRise : ℕ → ℕ → List Piece → Type 0
TokensRise from to ps = LieBetween from to (map span_of ps)

rise_bound : (from to : ℕ) (ps : List Piece) → TokensRise from to ps → from ≤ to
rise_bound from to [] h = h
rise_bound from to (p ∷ ps) h = let low : from ≤ p.start = h.0 in let high : p.start + length p.text < to = h.2 in omega arith

rise_later : (from later to : ℕ) (ps : List Piece) → from ≤ later → TokensRise later to ps → TokensRise from to ps
rise_later from later to [] h k = let end : later ≤ to = k in omega arith
rise_later from later to (p ∷ ps) h k = (let low : later ≤ p.start = k.0 in omega arith, k.1, k.2, k.3)

rise_to : (from to further : ℕ) (ps : List Piece) → to ≤ further → TokensRise from to ps → TokensRise from further ps
rise_to from to further [] h k = let end : from ≤ to = k in omega arith
rise_to from to further (p ∷ ps) h k = (k.0, k.1, (let high : p.start + length p.text < to = k.2 in omega arith), rise_to (p.start + length p.text) to further ps h k.3)

rise_append : (from middle to : ℕ) (ps qs : List Piece) → TokensRise from middle ps → TokensRise middle to qs → TokensRise from to (ps ++ qs)
rise_append from middle to [] qs h k = rise_later from middle to qs h k
rise_append from middle to (p ∷ ps) qs h k =
    let bound : middle ≤ to = rise_bound middle to qs k in
    (h.0, h.1, (let high : p.start + length p.text < middle = h.2 in omega arith), rise_append (p.start + length p.text) middle to ps qs h.3 k)

rise_take : (from to n : ℕ) (ps : List Piece) → TokensRise from to ps → TokensRise from to (take n ps)
rise_take from to zero ps h = rise_bound from to ps h
rise_take from to (suc n) [] h = h
rise_take from to (suc n) (p ∷ ps) h = (h.0, h.1, h.2, rise_take (p.start + length p.text) to n ps h.3)

-- the place behind pieces, and behind one byte more
abbrev pub pieces_end : ℕ → List (List ℕ) → ℕ
pieces_end start [] = start
pieces_end start (text ∷ texts) = pieces_end (start + length text + 1) texts

pieces_end_bound : (start : ℕ) (texts : List (List ℕ)) → start ≤ pieces_end start texts
pieces_end_bound start [] = omega arith
pieces_end_bound start (text ∷ texts) = let more = pieces_end_bound (start + length text + 1) texts in omega arith

one_byte_more : (start n b : ℕ) (test : Bool) (pieces : List (List ℕ)) → pieces_end (start + 1) pieces ≡ start + 1 + n + 1 → pieces_end start (cond test ([] ∷ pieces) (onto_first b pieces)) ≡ start + 1 + n + 1
one_byte_more start n b true pieces h = ap (λ m. pieces_end m pieces) (let e : start + 0 + 1 ≡ start + 1 = omega arith in e) ∙ h
one_byte_more start n b false [] h = absurd (omega arith)
one_byte_more start n b false (piece ∷ pieces) h = ap (λ m. pieces_end m pieces) (let e : start + length (b ∷ piece) + 1 ≡ start + 1 + length piece + 1 = omega arith in e) ∙ h

pieces_end-slice_split : (test : ℕ → Bool) (start : ℕ) (bytes : List ℕ) → pieces_end start (slice_split test bytes) ≡ start + length bytes + 1
pieces_end-slice_split test start [] = refl
pieces_end-slice_split test start (b ∷ bs) =
    one_byte_more start (length bs) b (test b) (slice_split test bs) (pieces_end-slice_split test (start + 1) bs) ∙ omega arith

-- the tokens among pieces
piece_then : (start to : ℕ) (text : List ℕ) (ps : List Piece) → TokensRise (start + length text + 1) to ps → TokensRise start to (not_empty start text ++ ps)
piece_then start to [] ps h = rise_later start (start + 0 + 1) to ps (omega arith) h
piece_then start to (b ∷ text) ps h =
    let end : ℕ = start + length (b ∷ text) in
    let bound : end + 1 ≤ to = rise_bound (end + 1) to ps h in
    (omega arith, omega arith, omega arith, rise_later end (end + 1) to ps (omega arith) h)

tokens_rise : (start : ℕ) (texts : List (List ℕ)) → TokensRise start (pieces_end start texts) (flat_map (λ p. not_empty p.start p.text) (pieces_from start texts))
tokens_rise start [] = omega arith
tokens_rise start (text ∷ texts) = piece_then start (pieces_end (start + length text + 1) texts) text _ (tokens_rise (start + length text + 1) texts)

line_tokens_rise : (p : Piece) → TokensRise p.start (p.start + length p.text + 1) (line_tokens p)
line_tokens_rise p =
    let bare : List ℕ = before_comment p.text in
    let shorter : length bare ≤ length p.text = omega (arith, length-take (position_or_len is_comment_mark p.text) p.text) in
    let end : pieces_end p.start (slice_split is_white bare) ≤ p.start + length p.text + 1 = omega (arith, pieces_end-slice_split is_white p.start bare) in
    rise_to p.start (pieces_end p.start (slice_split is_white bare)) (p.start + length p.text + 1) (line_tokens p) end (tokens_rise p.start (slice_split is_white bare))

-- the physical lines that are left begin where they begin in the file
abbrev pub Begin : List ℕ → ℕ → ℕ → List (List ℕ) → Type 0
Begin bytes number start [] = Unit {0}
Begin bytes number start (text ∷ texts) = (line_start bytes number ≡ start) × Begin bytes (number + 1) (start + length text + 1) texts

begin_from : (bytes : List ℕ) (d : Piece) (number start : ℕ) (texts : List (List ℕ)) → ((i : ℕ) → i < length texts → line_start bytes (number + i) ≡ (get_or (pieces_from start texts) i d).start) → Begin bytes number start texts
begin_from bytes d number start [] h = tt
begin_from bytes d number start (text ∷ texts) h =
    let same : number ≡ number + 0 = omega arith in (
      ap (line_start bytes) same ∙ h zero (omega arith),
      begin_from bytes d (number + 1) (start + length text + 1) texts (λ i k. let next : number + 1 + i ≡ number + suc i = omega arith in ap (line_start bytes) next ∙ h (suc i) (omega arith)),
    )

all_begin : (bytes : List ℕ) → Begin bytes 1 0 (physical_lines bytes)
all_begin bytes =
    let d : Piece = record { start = length bytes + 1; text = [] } in
    begin_from bytes d 1 0 (physical_lines bytes) (λ i k. let same : 1 + i - 1 ≡ i = omega arith in ap (λ n. (get_or (pieces_from 0 (physical_lines bytes)) n d).start) same)

-- lines on their own physical lines, from a place on
abbrev pub LieFrom : List ℕ → ℕ → List PlacedLine → Type 0
LieFrom bytes first ls = (first ≤ next_start bytes ls) × LieOnOwnLines bytes ls

lie_later : (bytes : List ℕ) (first later : ℕ) (ls : List PlacedLine) → first ≤ later → LieFrom bytes later ls → LieFrom bytes first ls
lie_later bytes first later ls h k = (let low : later ≤ next_start bytes ls = k.0 in omega arith, k.1)

lie_more : (bytes : List ℕ) (first next : ℕ) (line : PlacedLine) (ls : List PlacedLine) → line_start bytes line.line ≡ first → TokensRise first next line.tokens → LieFrom bytes next ls → LieFrom bytes first (line ∷ ls)
lie_more bytes first next line ls e h k =
    let P : ℕ → Type 0 = λ n. TokensRise n (next_start bytes ls) line.tokens in
    (omega arith, (subst P (sym e) (rise_to first next (next_start bytes ls) line.tokens k.0 h), k.1))

mutual
  lines_lie : (bytes : List ℕ) (number start : ℕ) (texts : List (List ℕ)) → Begin bytes number start texts → pieces_end start texts ≤ length bytes + 1
      → LieFrom bytes start (lines_from number (pieces_from start texts))
  lines_lie bytes number start [] b h = (h, tt)
  lines_lie bytes number start (text ∷ texts) b h =
      let p : Piece = record { start = start; text = text } in
      let next : ℕ = start + length text + 1 in
      let anew : List PlacedLine = lines_from (number + 1) (pieces_from next texts) in
      let line : PlacedLine = first_line number p in
      let longer : PlacedLine = record line { tokens = without_last line.tokens } in
      let own : TokensRise start next line.tokens = line_tokens_rise p in
      let rest : LieFrom bytes next anew = lines_lie bytes (number + 1) next texts b.1 h in
      let skipped : LieFrom bytes start anew = lie_later bytes start next anew (omega arith) rest in
      let P : List PlacedLine → Type 0 = LieFrom bytes start in
      blank_or_holds P (is_blank text) _ _ skipped
      (end_or_go_on_holds P (ends_in_backslash line.tokens) (without_last line.tokens) _ _ _
      (go_on_lies bytes start longer (number + 1) next texts b.0 (rise_take start next _ line.tokens own) b.1 h)
      skipped
      (lie_more bytes start next line anew b.0 own rest))

  go_on_lies : (bytes : List ℕ) (first : ℕ) (line : PlacedLine) (number start : ℕ) (texts : List (List ℕ)) → line_start bytes line.line ≡ first → TokensRise first start line.tokens
      → Begin bytes number start texts → pieces_end start texts ≤ length bytes + 1 → LieFrom bytes first (go_on line number (pieces_from start texts))
  go_on_lies bytes first line number start [] e own b h = lie_more bytes first start line [] e own (h, tt)
  go_on_lies bytes first line number start (text ∷ texts) e own b h =
      let p : Piece = record { start = start; text = text } in
      let next : ℕ = start + length text + 1 in
      let anew : List PlacedLine = lines_from (number + 1) (pieces_from next texts) in
      let more : PlacedLine = longer_line line p in
      let longer : PlacedLine = record more { tokens = without_last more.tokens } in
      let both : TokensRise first next more.tokens = rise_append first start next line.tokens (line_tokens p) own (line_tokens_rise p) in
      let rest : LieFrom bytes next anew = lines_lie bytes (number + 1) next texts b.1 h in
      let P : List PlacedLine → Type 0 = LieFrom bytes first in
      end_or_go_on_holds P (ends_in_backslash more.tokens) (without_last more.tokens) _ _ _
      (go_on_lies bytes first longer (number + 1) next texts e (rise_take first next _ more.tokens both) b.1 h)
      (lie_later bytes first next anew (rise_bound first next more.tokens both) rest)
      (lie_more bytes first next more anew e both rest)

-- a last piece that is left out
pieces_end-without_empty_end : (start : ℕ) (pieces : List (List ℕ)) → pieces_end start (without_empty_end pieces) ≤ pieces_end start pieces
pieces_end-without_empty_end start [] = omega arith
pieces_end-without_empty_end start ([] ∷ []) = omega arith
pieces_end-without_empty_end start ((b ∷ bs) ∷ []) = omega arith
pieces_end-without_empty_end start (piece ∷ next ∷ pieces) = pieces_end-without_empty_end (start + length piece + 1) (next ∷ pieces)

pub lines_on_own : (bytes : List ℕ) → LieOnOwnLines bytes (placed_lines bytes)
lines_on_own bytes =
    let shorter : pieces_end 0 (physical_lines bytes) ≤ pieces_end 0 (slice_split is_newline bytes) = pieces_end-without_empty_end 0 (slice_split is_newline bytes) in
    let end : pieces_end 0 (physical_lines bytes) ≤ length bytes + 1 = omega (arith, pieces_end-slice_split is_newline 0 bytes) in
    let all : LieFrom bytes 0 (placed_lines bytes) = lines_lie bytes 1 0 (physical_lines bytes) (all_begin bytes) end in
    all.1

-- the tokens of lines
abbrev pub tokens_of_lines : List PlacedLine → List Piece
tokens_of_lines ls = flat_map (λ l. l.tokens) ls

-- what lies on its own lines is in order
all_rise : (bytes : List ℕ) (ls : List PlacedLine) → LieOnOwnLines bytes ls → TokensRise (next_start bytes ls) (length bytes + 1) (tokens_of_lines ls)
all_rise bytes [] h = omega arith
all_rise bytes (l ∷ ls) h = rise_append (line_start bytes l.line) (next_start bytes ls) (length bytes + 1) l.tokens (tokens_of_lines ls) h.0 (all_rise bytes ls h.1)

-- tokens that rise, as spans
all_within : (from size : ℕ) (ps : List Piece) → TokensRise from (size + 1) ps → All (IsWithin size) (map span_of ps)
all_within from size [] h = All-nil (IsWithin size)
all_within from size (p ∷ ps) h =
    let some : p.start < p.start + length p.text = h.1 in
    let end : p.start + length p.text < size + 1 = h.2 in
    All-cons (IsWithin size) (span_of p) (map span_of ps) (omega arith, omega arith) (all_within (p.start + length p.text) size ps h.3)

all_behind : (place from to : ℕ) (s : Span) (ps : List Piece) → s.end ≤ from → TokensRise from to ps → All (IsBefore s) (map span_of ps)
all_behind place from to s [] h k = All-nil (IsBefore s)
all_behind place from to s (p ∷ ps) h k =
    let low : from ≤ p.start = k.0 in
    All-cons (IsBefore s) (span_of p) (map span_of ps) (omega arith) (all_behind place (p.start + length p.text) to s ps (omega arith) k.3)

all_ordered : (from to : ℕ) (ps : List Piece) → TokensRise from to ps → AllPairs IsBefore (map span_of ps)
all_ordered from to [] h = λ i j d before below. absurd (omega arith)
all_ordered from to (p ∷ ps) h =
    AllPairs-cons IsBefore (span_of p) (map span_of ps)
    (all_behind 0 (p.start + length p.text) to (span_of p) ps (omega arith) h.3)
    (all_ordered (p.start + length p.text) to ps h.3)

spans_of_lines : (ls : List PlacedLine) → map span_of (tokens_of_lines ls) ≡ flat_map (λ spans. spans) (map token_spans ls)
spans_of_lines [] = refl
spans_of_lines (l ∷ ls) = map-append span_of l.tokens (tokens_of_lines ls) ∙ ap (λ ss. map span_of l.tokens ++ ss) (spans_of_lines ls)

pub spans_in_order : (bytes : List ℕ) → AreSpans (length bytes) (file_spans bytes)
spans_in_order bytes =
    let tokens : List Piece = tokens_of_lines (placed_lines bytes) in
    let first : ℕ = next_start bytes (placed_lines bytes) in
    let rise : TokensRise first (length bytes + 1) tokens = all_rise bytes (placed_lines bytes) (lines_on_own bytes) in
    subst (λ ss. AreSpans (length bytes) ss) (spans_of_lines (placed_lines bytes))
    (record { within = all_within first (length bytes) tokens rise; ordered = all_ordered first (length bytes + 1) tokens rise })
