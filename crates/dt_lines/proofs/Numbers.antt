-- The numbers of a file's logical lines rise, from 1 to the number of its physical lines.
use Rattle.std.proofs.Common.{◌≡◌, ℕ, ◌+◌, ◌<◌, ◌≤◌, List, [], ◌∷◌, length, map, cond, refl, sym, subst, arith}
use Rattle.std.specs.Prelude.{Bool, true, false}
use Rattle.std.specs.List.{All, AllPairs, slice_split, onto_first}
use Rattle.std.specs.List.Sorted.{IsStrictlyIncreasing}
use Rattle.std.proofs.lemmas.Simd.{map-map}
use Rattle.std.proofs.lemmas.List.Elements.{All-nil, All-cons, All-weaker}
use Rattle.std.proofs.lemmas.List.Kept.{AllPairs-cons}
use Rattle.std.proofs.lemmas.List.Splits.{length-slice_split}
use Rattle.dt_lines.specs.Lines.{Line, Piece, PlacedLine, is_newline, without_empty_end, physical_lines, pieces_from, is_blank, ends_in_backslash, without_last}
use Rattle.dt_lines.specs.Lines.{first_line, longer_line, lines_from, go_on, line_of, placed_lines, logical_lines}
use Rattle.dt_lines.specs.Numbers.{line_numbers, IsFromTo}
use Rattle.dt_lines.proofs.Choices.{blank_or_holds, end_or_go_on_holds}

-- numbers from the first to the last, each below the next
abbrev pub NumbersRise : ℕ → ℕ → List ℕ → Type 0
NumbersRise first last [] = Unit {0}
NumbersRise first last (n ∷ ns) = (first ≤ n) × (n ≤ last) × NumbersRise (n + 1) last ns

abbrev pub LinesRise : ℕ → ℕ → List Line → Type 0
LinesRise first last ls = NumbersRise first last (line_numbers ls)

abbrev pub PlacedRise : ℕ → ℕ → List PlacedLine → Type 0
PlacedRise first last ls = NumbersRise first last (map (λ l. l.line) ls)

-- what rises from a later number rises from an earlier one
pub numbers_later : (first later last : ℕ) (ns : List ℕ) → first ≤ later → NumbersRise later last ns → NumbersRise first last ns
numbers_later first later last [] h k = tt
numbers_later first later last (n ∷ ns) h k = (let le : later ≤ n = k.0 in omega arith, k.1, k.2)

pub lines_later : (first later last : ℕ) (ls : List Line) → first ≤ later → LinesRise later last ls → LinesRise first last ls
lines_later first later last ls h k = numbers_later first later last (line_numbers ls) h k

placed_later : (first later last : ℕ) (ls : List PlacedLine) → first ≤ later → PlacedRise later last ls → PlacedRise first last ls
placed_later first later last ls h k = numbers_later first later last (map (λ l. l.line) ls) h k

mutual
  lines_from_rise : (number last : ℕ) (ps : List Piece) → number + length ps ≤ last + 1 → PlacedRise number last (lines_from number ps)
  lines_from_rise number last [] h = tt
  lines_from_rise number last (p ∷ ps) h =
      let line : PlacedLine = first_line number p in
      let longer : PlacedLine = record line { tokens = without_last line.tokens } in
      let less : number + 1 + length ps ≤ last + 1 = omega arith in
      let anew : PlacedRise (number + 1) last (lines_from (number + 1) ps) = lines_from_rise (number + 1) last ps less in
      let skipped : PlacedRise number last (lines_from (number + 1) ps) = placed_later number (number + 1) last (lines_from (number + 1) ps) (omega arith) anew in
      blank_or_holds (PlacedRise number last) (is_blank p.text) _ _ skipped
      (end_or_go_on_holds (PlacedRise number last) (ends_in_backslash line.tokens) (without_last line.tokens) _ _ _ (go_on_rise longer (number + 1) last ps (omega arith) less) skipped (omega arith, omega arith, anew))

  go_on_rise : (line : PlacedLine) (number last : ℕ) (ps : List Piece) → line.line + 1 ≤ number → number + length ps ≤ last + 1 → PlacedRise line.line last (go_on line number ps)
  go_on_rise line number last [] h k = (omega arith, omega arith, tt)
  go_on_rise line number last (p ∷ ps) h k =
      let more : PlacedLine = longer_line line p in
      let longer : PlacedLine = record more { tokens = without_last more.tokens } in
      let less : number + 1 + length ps ≤ last + 1 = omega arith in
      let anew : PlacedRise (number + 1) last (lines_from (number + 1) ps) = lines_from_rise (number + 1) last ps less in
      end_or_go_on_holds (PlacedRise line.line last) (ends_in_backslash more.tokens) (without_last more.tokens) _ _ _ (go_on_rise longer (number + 1) last ps (omega arith) less)
      (placed_later line.line (number + 1) last (lines_from (number + 1) ps) (omega arith) anew)
      (omega arith, omega arith, placed_later (line.line + 1) (number + 1) last (lines_from (number + 1) ps) (omega arith) anew)

length-pieces_from : (start : ℕ) (texts : List (List ℕ)) → length (pieces_from start texts) ≡ length texts
length-pieces_from start [] = refl
length-pieces_from start (text ∷ texts) = let more = length-pieces_from (start + length text + 1) texts in omega arith

pub logical_lines_rise : (bytes : List ℕ) → LinesRise 1 (length (physical_lines bytes)) (logical_lines bytes)
logical_lines_rise bytes =
    let last : ℕ = length (physical_lines bytes) in
    let number_of : Line → ℕ = λ l. l.line in
    subst (λ ns. NumbersRise 1 last ns) (sym (map-map number_of line_of (placed_lines bytes)))
    (lines_from_rise 1 last (pieces_from 0 (physical_lines bytes)) (omega (arith, length-pieces_from 0 (physical_lines bytes))))

-- no more physical lines than bytes
one_byte_more : (test : Bool) (b : ℕ) (pieces : List (List ℕ)) (n : ℕ) → 0 < length pieces → length (without_empty_end pieces) ≤ n → length (without_empty_end (cond test ([] ∷ pieces) (onto_first b pieces))) ≤ n + 1
one_byte_more test b [] n h k = absurd (omega arith)
one_byte_more true b (piece ∷ pieces) n h k = omega arith
one_byte_more false b (piece ∷ []) n h k = omega arith
one_byte_more false b (piece ∷ next ∷ pieces) n h k = omega arith

pub length-physical_lines : (bytes : List ℕ) → length (physical_lines bytes) ≤ length bytes
length-physical_lines [] = omega arith
length-physical_lines (b ∷ bs) =
    let some : 0 < length (slice_split is_newline bs) = omega (arith, length-slice_split is_newline bs) in
    let more = one_byte_more (is_newline b) b (slice_split is_newline bs) (length bs) some (length-physical_lines bs) in
    omega (arith, more)

-- each number of those that rise lies between the first and the last, and below the later ones
all_from_to : (first last : ℕ) (ns : List ℕ) → NumbersRise first last ns → All (IsFromTo first last) ns
all_from_to first last [] h = All-nil (IsFromTo first last)
all_from_to first last (n ∷ ns) h =
    let low : first ≤ n = h.0 in
    All-cons (IsFromTo first last) n ns (low, h.1)
    (All-weaker (IsFromTo (n + 1) last) (IsFromTo first last) (λ m k. (let le : n + 1 ≤ m = k.0 in omega arith, k.1)) ns (all_from_to (n + 1) last ns h.2))

all_below : (first last : ℕ) (ns : List ℕ) → NumbersRise first last ns → AllPairs (λ n m. n < m) ns
all_below first last [] h = λ i j d before below. absurd (omega arith)
all_below first last (n ∷ ns) h =
    AllPairs-cons (λ n m. n < m) n ns
    (All-weaker (IsFromTo (n + 1) last) (λ m. n < m) (λ m k. let le : n + 1 ≤ m = k.0 in omega arith) ns (all_from_to (n + 1) last ns h.2))
    (all_below (n + 1) last ns h.2)

pub line_numbers_rise : (bytes : List ℕ) → IsStrictlyIncreasing (line_numbers (logical_lines bytes))
line_numbers_rise bytes k within = all_below 1 (length (physical_lines bytes)) (line_numbers (logical_lines bytes)) (logical_lines_rise bytes) k (k + 1) 0 (omega arith) within

pub line_numbers_from_to : (bytes : List ℕ) → All (IsFromTo 1 (length (physical_lines bytes))) (line_numbers (logical_lines bytes))
line_numbers_from_to bytes = all_from_to 1 (length (physical_lines bytes)) (line_numbers (logical_lines bytes)) (logical_lines_rise bytes)
