-- How a logical line goes on over physical lines.
use Rattle.std.proofs.Common.{◌≡◌, ℕ, ◌+◌, ◌-◌, ◌<◌, ◌≤◌, List, [], ◌∷◌, ◌++◌, length, map, take, true, refl, ap, sym, ◌∙◌, append-nil, arith}
use Rattle.std.specs.Prelude.{if◌then◌else◌}
use Rattle.std.proofs.lemmas.List.{map-append, length-map, take-map, drop_all}
use Rattle.dt_lines.specs.Lines.{Piece, PlacedLine, is_backslash, ends_in_backslash, without_last, if_tokens, end_or_go_on, lines_from, go_on, pieces_from, physical_lines}
use Rattle.dt_lines.specs.Spans.{text_at}
use Rattle.dt_lines.specs.SoFar.{IsLineEnd}
use Rattle.dt_lines.specs.Gathering.{Reading, TakesLine, all_lines, gathered_line, lines_after, piece_at, piece_between}
use Rattle.dt_lines.specs.declared.line.Span.{Span}
use Rattle.dt_lines.specs.declared.gather.Gathered.{Gathered}
use Rattle.dt_lines.proofs.Pieces.{lines_left, lines_left_more}

ends_at : (tokens : List Piece) (token : Piece) → ends_in_backslash (tokens ++ token ∷ []) ≡ is_backslash token.text
ends_at [] token = refl
ends_at (first ∷ []) token = refl
ends_at (first ∷ next ∷ more) token = ends_at (next ∷ more) token

-- the last span is the last token
pub ends_seen : (bytes : List ℕ) (spans rest : List Span) (last : Span) → spans ≡ rest ++ last ∷ [] → ends_in_backslash (map (piece_at bytes) spans) ≡ is_backslash (text_at bytes last)
ends_seen bytes spans rest last e =
    ap (λ xs. ends_in_backslash (map (piece_at bytes) xs)) e
    ∙ ap ends_in_backslash (map-append (piece_at bytes) rest (last ∷ []))
    ∙ ends_at (map (piece_at bytes) rest) (piece_at bytes last)

-- a span less is a token less
pub without_last_seen : (bytes : List ℕ) (spans : List Span) → map (piece_at bytes) (take (length spans - 1) spans) ≡ without_last (map (piece_at bytes) spans)
without_last_seen bytes spans =
    sym (take-map (piece_at bytes) (length spans - 1) spans)
    ∙ ap (λ n. take (n - 1) (map (piece_at bytes) spans)) (sym (length-map spans (piece_at bytes)))

pub without_last_line : (bytes : List ℕ) (before after : Gathered) → after.line ≡ before.line → after.indent ≡ before.indent → after.tokens.items ≡ take (length before.tokens.items - 1) before.tokens.items
    → gathered_line bytes after ≡ record { line = before.line; indent = before.indent; tokens = without_last (map (piece_at bytes) before.tokens.items) }
without_last_line bytes before after h k l =
    let e : map (piece_at bytes) after.tokens.items ≡ without_last (map (piece_at bytes) before.tokens.items) = ap (map (piece_at bytes)) l ∙ without_last_seen bytes before.tokens.items in
    cc

-- behind a backslash
pub goes_on : (line : PlacedLine) (number : ℕ) (ps : List Piece) → ends_in_backslash line.tokens ≡ true
    → lines_after (record line { tokens = without_last line.tokens }) number ps ≡ end_or_go_on line (lines_from number ps) (λ longer. go_on longer number ps)
goes_on line number ps e = sym (ap (λ b. if b then lines_after (record line { tokens = without_last line.tokens }) number ps else line ∷ lines_from number ps) e)

-- one physical line more
pub line_more : (bytes : List ℕ) (at end number : ℕ) (before after : Reading) (whole : List PlacedLine) → at < length bytes → IsLineEnd bytes at end
    → TakesLine before number (piece_between at end bytes) after
    → all_lines before number (lines_left at bytes) ≡ whole
    → all_lines after (number + 1) (lines_left (end + 1) bytes) ≡ whole
line_more bytes at end number before after whole l e step all =
    step (lines_left (end + 1) bytes)
    ∙ ap (λ ps. all_lines before number ps) (sym (lines_left_more bytes at end l e)) ∙ all

some_tokens : {A : Type 0} (tokens : List Piece) (some none : A) → 0 < length tokens → if_tokens tokens some none ≡ some
some_tokens [] some none h = absurd (omega arith)
some_tokens (token ∷ more) some none h = refl

no_tokens : {A : Type 0} (tokens : List Piece) (some none : A) → length tokens ≡ 0 → if_tokens tokens some none ≡ none
no_tokens [] some none h = refl
no_tokens (token ∷ more) some none h = absurd (omega arith)

-- no physical line more, where nothing is gathered
pub lines_last : (bytes : List ℕ) (at number : ℕ) (before whole : List PlacedLine) (gathered : Gathered) → length bytes ≤ at → length gathered.tokens.items ≡ 0
    → before ++ lines_after (gathered_line bytes gathered) number (lines_left at bytes) ≡ whole → before ≡ whole
lines_last bytes at number before whole gathered h none all =
    let tokens : List Piece = map (piece_at bytes) gathered.tokens.items in
    let line : PlacedLine = gathered_line bytes gathered in
    sym (append-nil before)
    ∙ ap (λ lines. before ++ lines) (sym (no_tokens tokens (line ∷ []) [] (length-map gathered.tokens.items (piece_at bytes) ∙ none)))
    ∙ ap (λ ys. before ++ lines_after line number (pieces_from at (physical_lines ys))) (sym (drop_all at bytes h)) ∙ all

-- no physical line more: a line that is gathered ends
pub line_last : (bytes : List ℕ) (at number : ℕ) (before after whole : List PlacedLine) (gathered : Gathered) → length bytes ≤ at → 0 < length gathered.tokens.items
    → after ≡ before ++ gathered_line bytes gathered ∷ [] → before ++ lines_after (gathered_line bytes gathered) number (lines_left at bytes) ≡ whole → after ≡ whole
line_last bytes at number before after whole gathered h some is all =
    let tokens : List Piece = map (piece_at bytes) gathered.tokens.items in
    let line : PlacedLine = gathered_line bytes gathered in
    is
    ∙ ap (λ lines. before ++ lines) (sym (some_tokens tokens (line ∷ []) [] (omega (arith, length-map gathered.tokens.items (piece_at bytes)))))
    ∙ ap (λ ys. before ++ lines_after line number (pieces_from at (physical_lines ys))) (sym (drop_all at bytes h)) ∙ all
