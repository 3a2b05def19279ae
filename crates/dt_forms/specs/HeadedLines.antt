-- A line that has a token, as it is read.
use Rattle.std.specs.Prelude.{◌≡◌, ℕ, List, ◌∷◌, length, map, All}
use Rattle.dt_lines.specs.Spans.{AreSpans, IsWithin, text_at}
use Rattle.dt_lines.specs.declared.line.Position.{Position}
use Rattle.dt_forms.specs.declared.reader.HeadedLine.{HeadedLine}

-- where it stands
abbrev pub position_of : HeadedLine → Position
position_of l = record { file = l.file; line = l.line.now.line }

-- its first token, and the others
abbrev pub first_text : HeadedLine → List ℕ
first_text l = text_at l.source.now l.first

abbrev pub rest_texts : HeadedLine → List (List ℕ)
rest_texts l = map (text_at l.source.now) l.rest.now

-- its tokens are those of the line, and lie in the file
pub record IsHeaded (l : HeadedLine) : Type 0 where
  pub spans : AreSpans (length l.source.now) l.line.now.tokens
  pub first : IsWithin (length l.source.now) l.first
  pub rest : All (IsWithin (length l.source.now)) l.rest.now
  pub tokens : l.line.now.tokens ≡ l.first ∷ l.rest.now
