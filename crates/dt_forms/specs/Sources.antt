-- Files with the lines that were read of them.
use Rattle.std.specs.Prelude.{◌≡◌, ◌<◌, ◌≤◌, ℕ, List, length, get_or, map, All}
use Rattle.dt_lines.specs.Lines.{logical_lines, physical_lines}
use Rattle.dt_lines.specs.Spans.{line_seen, logical_spans, AreSpans}
use Rattle.dt_lines.specs.declared.limits.TheConstants.{LARGEST_FILE}
use Rattle.dt_forms.specs.declared.source.Source.{Source}

-- the lines are those of the file's bytes, with their tokens where they lie, as the file at this place has them; the
-- number of the last physical line; a file that isn't too large
pub record IsSourceAt (place : ℕ) (s : Source) : Type 0 where
  pub lines : map (line_seen s.bytes) s.lines ≡ logical_lines s.bytes
  pub places : map (λ l. l.tokens) s.lines ≡ logical_spans s.bytes
  pub spans : All (λ l. AreSpans (length s.bytes) l.tokens) s.lines
  pub file : All (λ l. l.file ≡ place) s.lines
  pub last_line : s.last_line ≡ length (physical_lines s.bytes)
  pub small : length s.bytes ≤ LARGEST_FILE

-- each is the source at its place
abbrev pub AreSources : List Source → Type 0
AreSources files = (place : ℕ) (d : Source) → place < length files → IsSourceAt place (get_or files place d)
