-- The lines of a file are found by their numbers, which rise.
use Rattle.std.proofs.Common.{◌≡◌, ℕ, zero, suc, ◌<◌, ◌≤◌, ◌==◌, List, [], ◌∷◌, length, get_or, map, false, sym, ◌∙◌, ap, subst, refl, arith, inl, inr, ◌⊎◌, eq-eqb, Ordering, Less, Equal, Greater}
use Rattle.std.specs.Prelude.{All, AllPairs, Err}
use Rattle.std.specs.Ordering.{nat_cmp, ordering_index}
use Rattle.std.specs.List.Sorted.{IsNonDecreasingBy, IsBinarySearchResult, IsStrictlyIncreasing}
use Rattle.std.proofs.lemmas.Bool.{cases_eq, cases_lt, cond-true, cond-false}
use Rattle.std.proofs.lemmas.Bool.Decides.{nat_tests}
use Rattle.std.proofs.lemmas.List.{get_or-map, length-map}
use Rattle.std.proofs.lemmas.List.Kept.{AllPairs-from_increasing}
use Rattle.dt_lines.specs.Lines.{Line}
use Rattle.dt_lines.specs.Numbers.{line_numbers}
use Rattle.dt_lines.specs.Spans.{AreSpans, line_seen, text_at}
use Rattle.dt_lines.specs.declared.line.Logical.{Logical}
use Rattle.dt_lines.proofs.Numbers.{line_numbers_rise}
use Rattle.dt_forms.specs.declared.source.Source.{Source}
use Rattle.dt_forms.specs.Positions.{IsLineBefore, first_token_in, leading_token}
use Rattle.dt_forms.specs.Sources.{AreSources, IsSourceAt}

-- the number of a line against a number
abbrev pub line_cmp : ℕ → Logical → Ordering
line_cmp number l = nat_cmp l.line number

comparisons_rise : (number : ℕ) (ls : List Logical) → AllPairs IsLineBefore ls
    → IsNonDecreasingBy (λ l. ordering_index (line_cmp number l)) ls
comparisons_rise number ls up i j d le lj = elim (cases_eq i j) [
  | inl e ↦ rw e (omega arith)
  | inr ne ↦ numbers_rise (get_or ls i d).line (get_or ls j d).line (up i j d (omega arith) lj)
]
  where
    numbers_rise : (a b : ℕ) → a < b → ordering_index (nat_cmp a number) ≤ ordering_index (nat_cmp b number)
    numbers_rise a b h = grind (arith, nat_tests)

other_number : (a b : ℕ) → a < b → (a == b) ≡ false
other_number a b h = grind (arith, nat_tests)

equal_number : (a b : ℕ) → nat_cmp a b ≡ Equal → a ≡ b
equal_number a b e = grind (arith, nat_tests)

unequal_number : (a b : ℕ) → (nat_cmp a b ≡ Less) ⊎ (nat_cmp a b ≡ Greater) → (a == b) ≡ false
unequal_number a b h = grind (arith, nat_tests)

-- the line of a number is the only one
token_at : (bytes : List ℕ) (ls : List Logical) (number i : ℕ) (d : Logical) → AllPairs IsLineBefore ls → i < length ls
    → (get_or ls i d).line ≡ number
    → first_token_in (map (line_seen bytes) ls) number ≡ leading_token (map (text_at bytes) (get_or ls i d).tokens)
token_at bytes [] number i d up h e = absurd (omega arith)
token_at bytes (l ∷ ls) number zero d up h e = cond-true (l.line == number) _ _ (eq-eqb l.line number e)
token_at bytes (l ∷ ls) number (suc i) d up h e =
    let low : l.line < (get_or ls i d).line = up 0 (suc i) d (omega arith) h in
    cond-false (l.line == number) _ _ (other_number l.line number (omega arith))
    ∙ token_at bytes ls number i d (λ j k x before within. up (suc j) (suc k) x (omega arith) (omega arith))
    (omega arith) e

no_token : (bytes : List ℕ) (ls : List Logical) (number : ℕ) → All (λ l. (l.line == number) ≡ false) ls
    → first_token_in (map (line_seen bytes) ls) number ≡ []
no_token bytes [] number none = refl
no_token bytes (l ∷ ls) number none =
    cond-false (l.line == number) _ _ (none 0 l (omega arith))
    ∙ no_token bytes ls number (λ k d h. none (suc k) d (omega arith))

-- what the search answers
pub token_found : (bytes : List ℕ) (ls : List Logical) (number i : ℕ) (d : Logical) → AllPairs IsLineBefore ls
    → i < length ls
    → ((d : Logical) → line_cmp number (get_or ls i d) ≡ Equal)
    → leading_token (map (text_at bytes) (get_or ls i d).tokens) ≡ first_token_in (map (line_seen bytes) ls) number
token_found bytes ls number i d up h e =
    sym (token_at bytes ls number i d up h (equal_number (get_or ls i d).line number (e d)))

pub no_token_found : (bytes : List ℕ) (ls : List Logical) (number i : ℕ) → AllPairs IsLineBefore ls
    → IsBinarySearchResult (line_cmp number) ls (Err i) → [] ≡ first_token_in (map (line_seen bytes) ls) number
no_token_found bytes ls number i up result =
    let parted = result (comparisons_rise number ls up) in
    sym (no_token bytes ls number (λ k d h. elim (cases_lt k i) [
      | inl below ↦ unequal_number (get_or ls k d).line number (inl (parted.0 k d (omega arith) below))
      | inr above ↦ unequal_number (get_or ls k d).line number (inr (parted.1 k d above h))
    ]))

-- the lines of a source rise
pub source_in_order : (place : ℕ) (s : Source) → IsSourceAt place s → AllPairs IsLineBefore s.lines
source_in_order place s is i j d before within =
    let lines : List Line = map (line_seen s.bytes) s.lines in
    let rise : IsStrictlyIncreasing (line_numbers lines) =
    subst (λ (ls : List Line). IsStrictlyIncreasing (line_numbers ls)) (sym is.lines) (line_numbers_rise s.bytes) in
    let count : length (line_numbers lines) ≡ length s.lines =
    length-map lines (λ l. l.line) ∙ length-map s.lines (line_seen s.bytes) in
    let number : (k : ℕ) → k < length s.lines → get_or (line_numbers lines) k 0 ≡ (get_or s.lines k d).line
    = λ k h. get_or-map (λ (l : Line). l.line) lines k (line_seen s.bytes d) 0
    (omega (arith, length-map s.lines (line_seen s.bytes)))
    ∙ ap (λ (l : Line). l.line) (get_or-map (line_seen s.bytes) s.lines k d (line_seen s.bytes d) h) in
    let below : get_or (line_numbers lines) i 0 < get_or (line_numbers lines) j 0 =
    AllPairs-from_increasing (line_numbers lines) rise i j 0 before (omega (arith, count)) in
    omega (arith, below, number i (omega arith), number j within)

-- the lines of the source at a place, and their tokens
source_at : (sources : List Source) (place : ℕ) (s : Source) → AreSources sources → place < length sources
    → s ≡ get_or sources place s → IsSourceAt place s
source_at sources place s are h is = subst (λ (x : Source). IsSourceAt place x) (sym is) (are place s h)

pub lines_in_order : (sources : List Source) (place : ℕ) (s : Source) (lines : List Logical) → AreSources sources
    → place < length sources → s ≡ get_or sources place s
    → lines ≡ s.lines → AllPairs IsLineBefore lines
lines_in_order sources place s lines are h is same =
    subst (λ (ls : List Logical). AllPairs IsLineBefore ls) (sym same)
    (source_in_order place s (source_at sources place s are h is))

pub spans_of_lines : (sources : List Source) (place : ℕ) (s : Source) (bytes : List ℕ) (lines : List Logical)
    → AreSources sources → place < length sources → s ≡ get_or sources place s
    → bytes ≡ s.bytes → lines ≡ s.lines → All (λ l. AreSpans (length bytes) l.tokens) lines
spans_of_lines sources place s bytes lines are h is same_bytes same =
    subst (λ (ls : List Logical). All (λ l. AreSpans (length bytes) l.tokens) ls) (sym same)
    (subst (λ (bs : List ℕ). All (λ l. AreSpans (length bs) l.tokens) s.lines) (sym same_bytes)
    (source_at sources place s are h is).spans)
