-- What spans into a file's bytes stand for, and which spans are the tokens of its lines.
use Rattle.std.specs.Prelude.{ℕ, ◌+◌, ◌<◌, ◌≤◌, List, length, map, All, AllPairs}
use Rattle.std.specs.List.{between}
use Rattle.dt_lines.specs.Lines.{Line, PlacedLine, Piece, placed_lines}
use Rattle.dt_lines.specs.declared.line.Span.{Span}
use Rattle.dt_lines.specs.declared.line.Logical.{Logical}

-- the bytes of a span
abbrev pub text_at : List ℕ → Span → List ℕ
text_at bytes span = between span.start span.end bytes

-- the line that spans stand for
abbrev pub line_seen : List ℕ → Logical → Line
line_seen bytes l = record { line = l.line; indent = l.indent; tokens = map (text_at bytes) l.tokens }

-- where a piece of a file lies
abbrev pub span_of : Piece → Span
span_of p = record { start = p.start; end = p.start + length p.text }

abbrev pub token_spans : PlacedLine → List Span
token_spans l = map span_of l.tokens

-- where the tokens of a file's logical lines lie, line by line
abbrev pub logical_spans : List ℕ → List (List Span)
logical_spans bytes = map token_spans (placed_lines bytes)

-- none is empty, and none goes past the end of so many bytes
abbrev pub IsWithin : ℕ → Span → Type 0
IsWithin length span = (span.start < span.end) × (span.end ≤ length)

-- one ends before the other begins
abbrev pub IsBefore : Span → Span → Type 0
IsBefore first second = first.end ≤ second.start

-- spans of a file of so many bytes: in it, in order, none over another
pub record AreSpans (length : ℕ) (spans : List Span) : Type 0 where
  pub within : All (IsWithin length) spans
  pub ordered : AllPairs IsBefore spans
