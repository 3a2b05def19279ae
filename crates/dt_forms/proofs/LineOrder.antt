-- The lines of files stand in the order of their files and numbers, and are not too many.
use Rattle.std.proofs.Common.{◌≡◌, ℕ, suc, ◌+◌, ◌-◌, ◌*◌, ◌^◌, ◌<◌, ◌≤◌, ◌==◌, false, List, [], ◌∷◌, ◌++◌, length, get_or, map, refl, ap, ◌∙◌, inl, inr, ⊎_elim, arith, eq-eqb}
use Rattle.std.specs.Prelude.{◌⊎◌}
use Rattle.std.specs.List.{All}
use Rattle.std.proofs.lemmas.Bool.{cond-true, cond-false}
use Rattle.std.proofs.lemmas.Bool.Decides.{nat_tests}
use Rattle.std.proofs.lemmas.List.{length-append, length-map}
use Rattle.std.proofs.lemmas.List.Elements.{All-nil, All-cons, All-append, All-head, All-tail, All-weaker}
use Rattle.dt_lines.specs.Lines.{Line, logical_lines, physical_lines}
use Rattle.dt_lines.proofs.Numbers.{LinesRise, lines_later, logical_lines_rise, length-physical_lines}
use Rattle.dt_forms.specs.FileLines.{FileLine, file_lines, all_lines, in_file, line_position, lines_of_files}
use Rattle.dt_forms.specs.Positions.{first_token_at, first_token_in, leading_token}

-- a place from which on a line lies
abbrev pub IsFrom : ℕ → ℕ → FileLine → Type 0
IsFrom file line l = (file < l.file) ⊎ ((file ≡ l.file) × (line ≤ l.line.line))

-- lines from this place on, each before the next
abbrev pub Rises : ℕ → ℕ → List FileLine → Type 0
Rises file line [] = Unit {0}
Rises file line (l ∷ ls) = IsFrom file line l × Rises l.file (l.line.line + 1) ls

from_next_file : (file line : ℕ) (l : FileLine) → IsFrom (file + 1) 0 l → IsFrom file line l
from_next_file file line l k = ⊎_elim (λ (a : file + 1 < l.file). inl (omega arith))
    (λ (b : (file + 1 ≡ l.file) × (0 ≤ l.line.line)). inl (let e : file + 1 ≡ l.file = b.0 in omega arith)) k

rises_next_file : (file line : ℕ) (ls : List FileLine) → Rises (file + 1) 0 ls → Rises file line ls
rises_next_file file line [] k = tt
rises_next_file file line (l ∷ ls) k = (from_next_file file line l k.0, k.1)

file_rises : (file line last : ℕ) (ls : List Line) (later : List FileLine) → LinesRise line last ls
    → Rises (file + 1) 0 later → Rises file line (map (in_file file) ls ++ later)
file_rises file line last [] later h k = rises_next_file file line later k
file_rises file line last (l ∷ ls) later h k = (inr (refl, h.0), file_rises file (l.line + 1) last ls later h.2 k)

files_rise : (file : ℕ) (texts : List (List ℕ)) → Rises file 0 (lines_of_files file texts)
files_rise file [] = tt
files_rise file (text ∷ texts) =
    let last : ℕ = length (physical_lines text) in
    file_rises file 0 last (logical_lines text) (lines_of_files (file + 1) texts)
    (lines_later 0 1 last (logical_lines text) (omega arith) (logical_lines_rise text))
    (files_rise (file + 1) texts)

pub all_rise : (texts : List (List ℕ)) → Rises 0 0 (all_lines texts)
all_rise texts = files_rise 0 texts

-- how many lines there are
lines_few : (first last : ℕ) (ls : List Line) → LinesRise first last ls → first ≤ last + 1
    → length ls + first ≤ last + 1
lines_few first last [] rise h = omega arith
lines_few first last (l ∷ ls) rise h =
    let low : first ≤ l.line = rise.0 in
    let high : l.line ≤ last = rise.1 in
    let more : length ls + (l.line + 1) ≤ last + 1 = lines_few (l.line + 1) last ls rise.2 (omega arith) in
    omega arith

file_few : (text : List ℕ) → length text < 2 ^ 32 → length (logical_lines text) ≤ 2 ^ 32
file_few text small =
    let last : ℕ = length (physical_lines text) in
    let few : length (logical_lines text) + 1 ≤ last + 1 =
    lines_few 1 last (logical_lines text) (logical_lines_rise text) (omega arith) in
    omega (arith, length-physical_lines text)

pub files_few : (file : ℕ) (texts : List (List ℕ)) → All (λ t. length t < 2 ^ 32) texts
    → length (lines_of_files file texts) ≤ length texts * 2 ^ 32
files_few file [] short = omega arith
files_few file (text ∷ texts) short =
    let here : length (logical_lines text) ≤ 2 ^ 32 =
    file_few text (All-head (λ t. length t < 2 ^ 32) text texts short) in
    let more : length (lines_of_files (file + 1) texts) ≤ length texts * 2 ^ 32 =
    files_few (file + 1) texts (All-tail (λ t. length t < 2 ^ 32) text texts short) in
    let lines : length (map (in_file file) (logical_lines text)) ≡ length (logical_lines text) =
    length-map (logical_lines text) (in_file file) in
    let all : length (map (in_file file) (logical_lines text) ++ lines_of_files (file + 1) texts)
    ≡ length (map (in_file file) (logical_lines text)) + length (lines_of_files (file + 1) texts) =
    length-append (map (in_file file) (logical_lines text)) (lines_of_files (file + 1) texts) in
    omega arith

-- a line of one of so many files, with a number that fits in 32 bits
abbrev pub IsPlaced : ℕ → FileLine → Type 0
IsPlaced files l = (l.file < files) × (l.line.line < 2 ^ 32)

lines_placed : (files file first last : ℕ) (ls : List Line) → file < files → last < 2 ^ 32 → LinesRise first last ls
    → All (IsPlaced files) (map (in_file file) ls)
lines_placed files file first last [] h k rise = All-nil (IsPlaced files)
lines_placed files file first last (l ∷ ls) h k rise =
    let within : l.line ≤ last = rise.1 in
    All-cons (IsPlaced files) (in_file file l) (map (in_file file) ls) (h, omega arith)
    (lines_placed files file (l.line + 1) last ls h k rise.2)

pub files_placed : (files file : ℕ) (texts : List (List ℕ)) → file + length texts ≤ files
    → All (λ t. length t < 2 ^ 32) texts → All (IsPlaced files) (lines_of_files file texts)
files_placed files file [] h short = All-nil (IsPlaced files)
files_placed files file (text ∷ texts) h short =
    let small : length text < 2 ^ 32 = All-head (λ t. length t < 2 ^ 32) text texts short in
    let last : ℕ = length (physical_lines text) in
    All-append (IsPlaced files) (map (in_file file) (logical_lines text)) (lines_of_files (file + 1) texts)
    (lines_placed files file 1 last (logical_lines text) (omega arith) (omega (arith, length-physical_lines text))
    (logical_lines_rise text))
    (files_placed files (file + 1) texts (omega arith) (All-tail (λ t. length t < 2 ^ 32) text texts short))

-- a line of this file, from a number on, with the token that it begins with
record IsFoundIn (file first : ℕ) (lines : List Line) (l : FileLine) : Type 0 where
  same_file : l.file ≡ file
  from : first ≤ l.line.line
  token : first_token_in lines l.line.line ≡ leading_token l.line.tokens

other_number : (a b : ℕ) → a + 1 ≤ b → (a == b) ≡ false
other_number a b h = grind (arith, nat_tests)

later_found : (file first : ℕ) (l : Line) (ls : List Line) → first ≤ l.line → (m : FileLine)
    → IsFoundIn file (l.line + 1) ls m → IsFoundIn file first (l ∷ ls) m
later_found file first l ls h m k =
    let low : l.line + 1 ≤ m.line.line = k.from in
    record {
      same_file = k.same_file;
      from = omega arith;
      token = cond-false (l.line == m.line.line) (leading_token l.tokens) (first_token_in ls m.line.line)
          (other_number l.line m.line.line low) ∙ k.token;
    }

lines_found : (file first last : ℕ) (ls : List Line) → LinesRise first last ls
    → All (IsFoundIn file first ls) (map (in_file file) ls)
lines_found file first last [] rise = All-nil (IsFoundIn file first [])
lines_found file first last (l ∷ ls) rise =
    All-cons (IsFoundIn file first (l ∷ ls)) (in_file file l) (map (in_file file) ls)
    (record {
      same_file = refl;
      from = rise.0;
      token =
          cond-true (l.line == l.line) (leading_token l.tokens) (first_token_in ls l.line) (eq-eqb l.line l.line refl);
    })
    (All-weaker (IsFoundIn file (l.line + 1) ls) (IsFoundIn file first (l ∷ ls)) (later_found file first l ls rise.0)
    (map (in_file file) ls) (lines_found file (l.line + 1) last ls rise.2))

-- the lines of a file
pub tokens_found : (file : ℕ) (text : List ℕ)
    → All (λ l. first_token_in (logical_lines text) l.line.line ≡ leading_token l.line.tokens) (file_lines file text)
tokens_found file text =
    All-weaker (IsFoundIn file 1 (logical_lines text))
    (λ (l : FileLine). first_token_in (logical_lines text) l.line.line ≡ leading_token l.line.tokens)
    (λ l k. k.token) (file_lines file text)
    (lines_found file 1 (length (physical_lines text)) (logical_lines text) (logical_lines_rise text))

-- a line of files of which the first has this place
record IsFoundFrom (file : ℕ) (texts : List (List ℕ)) (l : FileLine) : Type 0 where
  from : file ≤ l.file
  token : first_token_in (logical_lines (get_or texts (l.file - file) [])) l.line.line ≡ leading_token l.line.tokens

here_found : (file : ℕ) (text : List ℕ) (texts : List (List ℕ)) (l : FileLine) → IsFoundIn file 1 (logical_lines text) l
    → IsFoundFrom file (text ∷ texts) l
here_found file text texts l k =
    let same : l.file ≡ file = k.same_file in
    let first : l.file - file ≡ 0 = omega arith in
    record {
      from = omega arith;
      token = ap (λ n. first_token_in
          (logical_lines (get_or (text ∷ texts) n [])) l.line.line) first ∙ k.token;
    }

there_found : (file : ℕ) (text : List ℕ) (texts : List (List ℕ)) (l : FileLine) → IsFoundFrom (file + 1) texts l
    → IsFoundFrom file (text ∷ texts) l
there_found file text texts l k =
    let from : file + 1 ≤ l.file = k.from in
    let next : l.file - file ≡ suc (l.file - (file + 1)) = omega arith in
    record {
      from = omega arith;
      token = ap (λ n. first_token_in
          (logical_lines (get_or (text ∷ texts) n [])) l.line.line) next ∙ k.token;
    }

files_found : (file : ℕ) (texts : List (List ℕ)) → All (IsFoundFrom file texts) (lines_of_files file texts)
files_found file [] = All-nil (IsFoundFrom file [])
files_found file (text ∷ texts) =
    let here : List FileLine = map (in_file file) (logical_lines text) in
    let there : List FileLine = lines_of_files (file + 1) texts in
    All-append (IsFoundFrom file (text ∷ texts)) here there
    (All-weaker (IsFoundIn file 1 (logical_lines text)) (IsFoundFrom file (text ∷ texts))
    (here_found file text texts) here (lines_found file 1 (length (physical_lines text)) (logical_lines text)
    (logical_lines_rise text)))
    (All-weaker (IsFoundFrom (file + 1) texts) (IsFoundFrom file (text ∷ texts)) (there_found file text texts) there
    (files_found (file + 1) texts))

-- the token at a line's position is the one that it begins with
abbrev pub HasFirstToken : List (List ℕ) → FileLine → Type 0
HasFirstToken texts l = first_token_at texts (line_position l) ≡ leading_token l.line.tokens

line_found : (texts : List (List ℕ)) (l : FileLine) → IsFoundFrom 0 texts l → HasFirstToken texts l
line_found texts l k = ap (λ n. first_token_in (logical_lines (get_or texts n [])) l.line.line)
    (let e : l.file ≡ l.file - 0 = omega arith in e) ∙ k.token

pub all_found : (texts : List (List ℕ)) → All (HasFirstToken texts) (all_lines texts)
all_found texts = All-weaker (IsFoundFrom 0 texts) (HasFirstToken texts) (line_found texts) (all_lines texts)
    (files_found 0 texts)
