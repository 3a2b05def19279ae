-- What stands at a position in the files.
use Rattle.std.specs.Prelude.{◌≡◌, ℕ, ◌==◌, ◌<◌, List, [], ◌∷◌, length, get_or, if◌then◌else◌, Option, Some, None}
use Rattle.dt_lines.specs.Lines.{Line, logical_lines}
use Rattle.dt_lines.specs.declared.line.Logical.{Logical}
use Rattle.dt_lines.specs.Spans.{IsWithin, text_at}
use Rattle.dt_lines.specs.declared.line.Position.{Position}
use Rattle.dt_lines.specs.declared.line.Span.{Span}
use Rattle.dt_scope.specs.declared.kind.Opening.{Opening}
use Rattle.dt_scope.specs.Marks.{Mark, opens, closes, pattern_mark}
use Rattle.dt_forms.specs.Heads.{opening_text}

-- the first token of a line, empty where it has none
abbrev pub leading_token : List (List ℕ) → List ℕ
leading_token [] = []
leading_token (token ∷ more) = token

-- that of the line of this number among a file's lines, empty where there is none
abbrev pub first_token_in : List Line → ℕ → List ℕ
first_token_in [] number = []
first_token_in (l ∷ ls) number = if l.line == number then leading_token l.tokens else first_token_in ls number

-- that of the line at this position of these files
abbrev pub first_token_at : List (List ℕ) → Position → List ℕ
first_token_at texts position = first_token_in (logical_lines (get_or texts position.file [])) position.line

-- a line has a lower number than another
abbrev pub IsLineBefore : Logical → Logical → Type 0
IsLineBefore a b = a.line < b.line

-- where a token lies in these bytes, or nowhere where it is empty
abbrev pub IsSpanOf : List ℕ → Option Span → List ℕ → Type 0
IsSpanOf bytes None token = [] ≡ token
IsSpanOf bytes (Some span) token = (text_at bytes span ≡ token) × IsWithin (length bytes) span

-- the line of a group's opening begins with what opens a group of its kind
abbrev pub IsFoundOpening : List ℕ → Opening → Type 0
IsFoundOpening text o = first_token_in (logical_lines text) o.line ≡ opening_text o.kind

-- the line that opens a group begins with what opens one of its kind
abbrev pub OpensWith : List (List ℕ) → Mark → Type 0
OpensWith texts (opens kind file line) = first_token_at texts (record { file = file; line = line }) ≡ opening_text kind
OpensWith texts (closes kind) = Unit {0}
OpensWith texts (pattern_mark n) = Unit {0}
