-- Where the reading of a file stands between two physical lines.
use Rattle.std.specs.Prelude.{◌≡◌, ℕ, ◌+◌, Bool, false, List, ◌∷◌, ◌++◌, map}
use Rattle.std.specs.List.{between}
use Rattle.dt_lines.specs.Lines.{Piece, PlacedLine, is_blank, if_tokens, first_line, longer_line}
use Rattle.dt_lines.specs.Lines.{end_or_go_on, lines_from, go_on}
use Rattle.dt_lines.specs.declared.line.Span.{Span}
use Rattle.dt_lines.specs.declared.line.Logical.{Logical}
use Rattle.dt_lines.specs.declared.gather.Gathered.{Gathered}

-- the part of a file from a place up to another
abbrev pub piece_between : ℕ → ℕ → List ℕ → Piece
piece_between from to bytes = record { start = from; text = between from to bytes }

abbrev pub piece_at : List ℕ → Span → Piece
piece_at bytes span = piece_between span.start span.end bytes

-- the line that spans stand for, with their places
abbrev pub placed_line : List ℕ → Logical → PlacedLine
placed_line bytes l = record { line = l.line; indent = l.indent; tokens = map (piece_at bytes) l.tokens }

-- the line that is gathered so far; without tokens nothing is
abbrev pub gathered_line : List ℕ → Gathered → PlacedLine
gathered_line bytes g = record { line = g.line; indent = g.indent; tokens = map (piece_at bytes) g.tokens.items }

-- the lines that are made of it and of the next physical lines
abbrev pub lines_after : PlacedLine → ℕ → List Piece → List PlacedLine
lines_after line number ps = if_tokens line.tokens (go_on line number ps) (lines_from number ps)

-- a blank line where nothing is gathered
abbrev pub is_skipped : PlacedLine → List ℕ → Bool
is_skipped line text = if_tokens line.tokens false (is_blank text)

-- the line with the tokens of the next physical line, at which it begins where nothing is gathered
abbrev pub line_with : PlacedLine → ℕ → Piece → PlacedLine
line_with line number p = if_tokens line.tokens (longer_line line p) (first_line number p)

-- the lines that have ended, and the one that is gathered
pub record Reading : Type 0 where
  pub ended : List PlacedLine
  pub gathered : PlacedLine

abbrev pub reading : List ℕ → List Logical → Gathered → Reading
reading bytes lines g = record { ended = map (placed_line bytes) lines; gathered = gathered_line bytes g }

-- all lines of a file, where these physical lines come next
abbrev pub all_lines : Reading → ℕ → List Piece → List PlacedLine
all_lines r number ps = r.ended ++ lines_after r.gathered number ps

-- a reading takes the physical line with this number: all lines are the same, whatever comes next
abbrev pub TakesLine : Reading → ℕ → Piece → Reading → Type 0
TakesLine before number p after =
    (ps : List Piece) → all_lines after (number + 1) ps ≡ all_lines before number (p ∷ ps)

-- the line that is gathered ends, or goes on
abbrev pub EndsOrGoesOn : Reading → Reading → Type 0
EndsOrGoesOn before after =
    (number : ℕ) → (ps : List Piece) → all_lines after number ps
    ≡ before.ended ++ end_or_go_on before.gathered (lines_from number ps) (λ line. go_on line number ps)
