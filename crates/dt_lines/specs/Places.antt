-- Where the tokens of a file's logical lines lie: on which physical lines, and in which order.
use Rattle.std.specs.Prelude.{ℕ, ◌+◌, ◌-◌, ◌<◌, ◌≤◌, List, [], ◌∷◌, length, get_or, flat_map}
use Rattle.dt_lines.specs.Lines.{PlacedLine, physical_lines, pieces_from}
use Rattle.dt_lines.specs.Spans.{logical_spans, token_spans}
use Rattle.dt_lines.specs.declared.line.Span.{Span}

-- the tokens of all logical lines of a file
abbrev pub file_spans : List ℕ → List Span
file_spans bytes = flat_map (λ spans. spans) (logical_spans bytes)

-- where the physical line with this number, from 1, begins: behind the file where it has none
abbrev pub line_start : List ℕ → ℕ → ℕ
line_start bytes number =
    (get_or (pieces_from 0 (physical_lines bytes)) (number - 1) (record { start = length bytes + 1; text = [] })).start

-- spans from a place on, in order, none empty and none over another, that end before another place
abbrev pub LieBetween : ℕ → ℕ → List Span → Type 0
LieBetween from to [] = from ≤ to
LieBetween from to (s ∷ ss) = (from ≤ s.start) × (s.start < s.end) × (s.end < to) × LieBetween s.end to ss

-- where the first of these lines begins, or the place behind the file
abbrev pub next_start : List ℕ → List PlacedLine → ℕ
next_start bytes [] = length bytes + 1
next_start bytes (l ∷ ls) = line_start bytes l.line

-- each line's tokens lie on its own physical lines: from where its first one begins, before the next logical line begins
abbrev pub LieOnOwnLines : List ℕ → List PlacedLine → Type 0
LieOnOwnLines bytes [] = Unit {0}
LieOnOwnLines bytes (l ∷ ls) =
    LieBetween (line_start bytes l.line) (next_start bytes ls) (token_spans l) × LieOnOwnLines bytes ls
