-- The logical lines of a pattern file, after docs/devel/decodetree.rst and the line reading of scripts/decodetree.py.
use Rattle.std.specs.Prelude.{ℕ, ◌+◌, ◌-◌, ◌*◌, ◌/◌, ◌==◌, ◌||◌, Bool, true, false, if◌then◌else◌, nat_eq}
use Rattle.std.specs.Prelude.{List, [], ◌∷◌, ◌++◌, length, take, map, flat_map}
use Rattle.std.specs.List.{slice_split, before_first, list_all}
use Rattle.std.specs.Cmp.Lexicographic.{pointwise}

-- a line's end: LF
abbrev pub is_newline : ℕ → Bool
is_newline b = b == 10

-- white space: space, tab, VT, FF, CR
abbrev pub is_white : ℕ → Bool
is_white b = b == 32 || (b == 9 || (b == 11 || (b == 12 || b == 13)))

abbrev pub is_empty : List ℕ → Bool
is_empty [] = true
is_empty (b ∷ bs) = false

-- a last piece counts where it isn't empty
abbrev pub without_empty_end : List (List ℕ) → List (List ℕ)
without_empty_end [] = []
without_empty_end (piece ∷ []) = if is_empty piece then [] else piece ∷ []
without_empty_end (piece ∷ next ∷ pieces) = piece ∷ without_empty_end (next ∷ pieces)

-- what lies between the LFs of a file
abbrev pub physical_lines : List ℕ → List (List ℕ)
physical_lines bytes = without_empty_end (slice_split is_newline bytes)

-- bytes of a file, from a place in it: a physical line, or a token
pub record Piece : Type 0 where
  pub start : ℕ
  pub text : List ℕ

-- pieces of a file from a place on, where one byte lies between each and the next
abbrev pub pieces_from : ℕ → List (List ℕ) → List Piece
pieces_from start [] = []
pieces_from start (text ∷ texts) = record { start = start; text = text } ∷ pieces_from (start + length text + 1) texts

-- the bytes from a place, unless there are none
abbrev pub not_empty : ℕ → List ℕ → List Piece
not_empty start [] = []
not_empty start (b ∷ bs) = record { start = start; text = b ∷ bs } ∷ []

-- what lies between the white space of a text that begins at a place
abbrev pub tokens_from : ℕ → List ℕ → List Piece
tokens_from start text = flat_map (λ p. not_empty p.start p.text) (pieces_from start (slice_split is_white text))

-- a comment begins at `#`
abbrev pub is_comment_mark : ℕ → Bool
is_comment_mark b = b == 35

abbrev pub before_comment : List ℕ → List ℕ
before_comment text = before_first is_comment_mark text

-- the tokens of a physical line
abbrev pub line_tokens : Piece → List Piece
line_tokens line = tokens_from line.start (before_comment line.text)

-- nothing, or white space alone
abbrev pub is_blank : List ℕ → Bool
is_blank text = list_all is_white text

-- a tab moves to the next column that is a multiple of eight
abbrev pub next_column : ℕ → ℕ → ℕ
next_column column b = if b == 9 then (column / 8 + 1) * 8 else column + 1

-- the column of the first byte that isn't white space, for a text that begins at a column
abbrev pub column_from : ℕ → List ℕ → ℕ
column_from column [] = column
column_from column (b ∷ bs) = if is_white b then column_from (next_column column b) bs else column

-- how far a line is indented, in columns from 0
abbrev pub indentation : List ℕ → ℕ
indentation text = column_from 0 text

-- a logical line: its number from 1, its indentation in columns, its tokens with their places
pub record PlacedLine : Type 0 where
  pub line : ℕ
  pub indent : ℕ
  pub tokens : List Piece

-- the token that stands last on a line which the next one continues
abbrev pub is_backslash : List ℕ → Bool
is_backslash token = pointwise nat_eq token (92 ∷ [])

abbrev pub ends_in_backslash : List Piece → Bool
ends_in_backslash [] = false
ends_in_backslash (token ∷ []) = is_backslash token.text
ends_in_backslash (token ∷ next ∷ more) = ends_in_backslash (next ∷ more)

abbrev pub without_last : List Piece → List Piece
without_last tokens = take (length tokens - 1) tokens

-- the first where there are tokens, else the second
abbrev pub if_tokens : {A : Type 0} → List Piece → A → A → A
if_tokens [] some none = none
if_tokens (token ∷ more) some none = some

-- a line goes on behind a last backslash, unless no token is left: then the next line begins anew. Else it ends
abbrev pub end_or_go_on : PlacedLine → List PlacedLine → (PlacedLine → List PlacedLine) → List PlacedLine
end_or_go_on line anew longer =
    if ends_in_backslash line.tokens
    then if_tokens (without_last line.tokens) (longer (record line { tokens = without_last line.tokens })) anew
    else line ∷ anew

-- the line that begins at a physical line with this number
abbrev pub first_line : ℕ → Piece → PlacedLine
first_line number p = record { line = number; indent = indentation p.text; tokens = line_tokens p }

-- a line with the tokens of a further physical line, which may have none
abbrev pub longer_line : PlacedLine → Piece → PlacedLine
longer_line line p = record line { tokens = line.tokens ++ line_tokens p }

abbrev mutual
  -- the logical lines among physical ones, of which the first has this number: a blank line is none
  pub lines_from : ℕ → List Piece → List PlacedLine
  lines_from number [] = []
  lines_from number (p ∷ ps) =
      if is_blank p.text then lines_from (number + 1) ps
      else end_or_go_on (first_line number p) (lines_from (number + 1) ps) (λ line. go_on line (number + 1) ps)

  -- where a line goes on in them
  pub go_on : PlacedLine → ℕ → List Piece → List PlacedLine
  go_on line number [] = line ∷ []
  go_on line number (p ∷ ps) =
      end_or_go_on (longer_line line p) (lines_from (number + 1) ps) (λ longer. go_on longer (number + 1) ps)

-- the logical lines of a file, with the places of their tokens
abbrev pub placed_lines : List ℕ → List PlacedLine
placed_lines bytes = lines_from 1 (pieces_from 0 (physical_lines bytes))

-- a logical line: its number from 1, its indentation in columns, its tokens
pub record Line : Type 0 where
  pub line : ℕ
  pub indent : ℕ
  pub tokens : List (List ℕ)

-- a line by the bytes of its tokens, wherever they stand
abbrev pub line_of : PlacedLine → Line
line_of l = record { line = l.line; indent = l.indent; tokens = map (λ p. p.text) l.tokens }

-- the logical lines of a file
abbrev pub logical_lines : List ℕ → List Line
logical_lines bytes = map line_of (placed_lines bytes)
