-- The parts of an answer, between colons.
use Rattle.std.proofs.Common.{◌≡◌, ◌≢◌, ℕ, ◌+◌, ◌<◌, true, false, List, [], ◌∷◌, length, get_or, Option, Some, None, Bor}
use Rattle.std.proofs.Common.{is_some, refl, ap, sym, ◌∙◌, lit<, arith}
use Rattle.std.specs.List.{All, count_by, slice_split}
use Rattle.std.specs.Option.{MatchOption}
use Rattle.std.proofs.lemmas.Bool.Decides.{nat_tests}
use Rattle.std.proofs.lemmas.List.Elements.{All-from_get_or}
use Rattle.std.proofs.lemmas.List.Splits.{length-slice_split, slice_split_at, slice_split_none}
use Rattle.std.proofs.lemmas.Str.Pattern.{IsSplitOnceResult, split_parts}
use Rattle.dt_words.specs.Scripts.{answer_in, answer_of, is_colon}

other : (b : ℕ) → b ≢ 58 → is_colon b ≡ false
other b h = grind (arith, nat_tests)

without_colon : (text : List ℕ) → ((i : ℕ) → i < length text → get_or text i 0 ≢ 58)
    → All (λ b. is_colon b ≡ false) text
without_colon text h = All-from_get_or (λ b. is_colon b ≡ false) text 0 (λ i less. other (get_or text i 0) (h i less))

-- what stands before the first colon is the first part
pub first_part : (text : List ℕ) (r : Option (Bor (List ℕ) × Bor (List ℕ))) → IsSplitOnceResult 58 text r
    → MatchOption r (slice_split is_colon text ≡ text ∷ [])
    (λ parts. slice_split is_colon text ≡ parts.0.now ∷ slice_split is_colon parts.1.now)
first_part text None h = slice_split_none is_colon text (without_colon text (split_parts 58 text None h (lit< tt)))
first_part text (Some parts) h =
    let found = split_parts 58 text (Some parts) h (lit< tt) in
    ap (slice_split is_colon) found.0
    ∙ slice_split_at is_colon parts.0.now 58 parts.1.now (without_colon parts.0.now found.1) refl

more_parts : (calls function arg answer : List ℕ) (parts : List (List ℕ)) (n : ℕ) → length parts ≡ n + 1
    → answer_in (calls ∷ function ∷ arg ∷ answer ∷ parts) ≡ None
more_parts calls function arg answer [] n h = absurd (omega arith)
more_parts calls function arg answer (part ∷ parts) n h = refl

-- five parts and more are no answer
pub five_parts : (calls function arg answer rest : List ℕ)
    → answer_in (calls ∷ function ∷ arg ∷ answer ∷ slice_split is_colon rest) ≡ None
five_parts calls function arg answer rest =
    more_parts calls function arg answer (slice_split is_colon rest) (count_by is_colon rest)
    (length-slice_split is_colon rest)

-- where a fifth part follows there is no answer
pub with_fifth : (text calls behind_calls function behind_function arg answer : List ℕ)
    (r : Option (Bor (List ℕ) × Bor (List ℕ)))
    → slice_split is_colon text ≡ calls ∷ slice_split is_colon behind_calls
    → slice_split is_colon behind_calls ≡ function ∷ slice_split is_colon behind_function
    → slice_split is_colon behind_function ≡ arg ∷ slice_split is_colon answer
    → MatchOption r (slice_split is_colon answer ≡ answer ∷ [])
    (λ parts. slice_split is_colon answer ≡ parts.0.now ∷ slice_split is_colon parts.1.now)
    → is_some r ≡ true → None ≡ answer_of text
with_fifth text calls behind_calls function behind_function arg answer None a b c d h = absurd cc
with_fifth text calls behind_calls function behind_function arg answer (Some parts) a b c d h =
    let whole : slice_split is_colon text
    ≡ calls ∷ function ∷ arg ∷ parts.0.now ∷ slice_split is_colon parts.1.now = cc in
    sym (ap answer_in whole ∙ five_parts calls function arg parts.0.now parts.1.now)
