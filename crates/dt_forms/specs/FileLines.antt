-- The logical lines of pattern files, each with the place of its file.
use Rattle.std.specs.Prelude.{ℕ, ◌+◌, List, [], ◌∷◌, ◌++◌, map}
use Rattle.dt_lines.specs.Lines.{Line, logical_lines}
use Rattle.dt_lines.specs.declared.line.Position.{Position}

-- a logical line with the place of its file among all files, from 0
pub record FileLine : Type 0 where
  pub file : ℕ
  pub line : Line

abbrev pub in_file : ℕ → Line → FileLine
in_file file l = record { file = file; line = l }

-- where a line stands in the files
abbrev pub line_position : FileLine → Position
line_position l = record { file = l.file; line = l.line.line }

-- the logical lines of the file at this place
abbrev pub file_lines : ℕ → List ℕ → List FileLine
file_lines file text = map (in_file file) (logical_lines text)

-- those of files, of which the first has this place
abbrev pub lines_of_files : ℕ → List (List ℕ) → List FileLine
lines_of_files file [] = []
lines_of_files file (text ∷ texts) = file_lines file text ++ lines_of_files (file + 1) texts

-- those of all files, in order of file and line
abbrev pub all_lines : List (List ℕ) → List FileLine
all_lines texts = lines_of_files 0 texts
