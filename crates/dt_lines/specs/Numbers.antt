-- The numbers of lines.
use Rattle.std.specs.Prelude.{ℕ, ◌≤◌, List, map}
use Rattle.dt_lines.specs.Lines.{Line}

abbrev pub line_numbers : List Line → List ℕ
line_numbers lines = map (λ l. l.line) lines

-- a number from the first to the last
abbrev pub IsFromTo : ℕ → ℕ → ℕ → Type 0
IsFromTo first last number = (first ≤ number) × (number ≤ last)
