-- What holds of a physical line, and of the spans and the lines that are read so far.
use Rattle.std.specs.Prelude.{ℕ, ◌≡◌, ◌<◌, ◌≤◌, false, List, length, slice_index, All}
use Rattle.std.specs.List.{between}
use Rattle.dt_lines.specs.Lines.{is_newline}
use Rattle.dt_lines.specs.Spans.{AreSpans}
use Rattle.dt_lines.specs.declared.limits.TheConstants.{LARGEST_FILE}
use Rattle.dt_lines.specs.declared.line.Span.{Span}
use Rattle.dt_lines.specs.declared.line.Logical.{Logical}

-- the physical line from a place on ends at another: at the first LF, or at the end of the file
pub record IsLineEnd (bytes : List ℕ) (at end : ℕ) : Type 0 where
  pub after : at ≤ end
  pub within : end ≤ length bytes
  pub none : All (λ b. is_newline b ≡ false) (between at end bytes)
  pub newline : end < length bytes → slice_index bytes end ≡ 10

-- spans of a file of so many bytes, none past a place
pub record AreSpansTo (length place : ℕ) (spans : List Span) : Type 0 where
  pub placed : AreSpans length spans
  pub before : All (λ s. s.end ≤ place) spans

-- the part of a file that is read next, behind these spans
pub record IsNext (length from to : ℕ) (spans : List Span) : Type 0 where
  pub behind : AreSpansTo length from spans
  pub ordered : from ≤ to
  pub within : to ≤ length
  pub small : length ≤ LARGEST_FILE

-- lines of one file, of so many bytes
pub record AreLinesOf (file length : ℕ) (lines : List Logical) : Type 0 where
  pub spans : All (λ l. AreSpans length l.tokens) lines
  pub same_file : All (λ l. l.file ≡ file) lines
