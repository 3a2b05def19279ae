-- Texts with a byte between two parts.
use Rattle.std.proofs.Common.{◌≡◌, ℕ, zero, suc, ◌+◌, ◌==◌, List, [], ◌∷◌, Some, take, drop, refl, ap, ◌∙◌, sym, add-one}
use Rattle.std.specs.List.{position}
use Rattle.std.specs.Option.{option_map}
use Rattle.dt_fields.specs.Parts.{parts_at_byte}

drop_more_one : {A : Type 0} (xs : List A) (i : ℕ) → drop 1 (drop i xs) ≡ drop (suc i) xs
drop_more_one xs zero = refl
drop_more_one [] (suc i) = refl
drop_more_one (x ∷ xs) (suc i) = drop_more_one xs i

pub parts_at : (mark : ℕ) (text before rest behind : List ℕ) (at : ℕ) → Some at ≡ position (λ b. b == mark) text
    → before ≡ take at text → rest ≡ drop at text → behind ≡ drop 1 rest
    → Some (before, behind) ≡ parts_at_byte mark text
parts_at mark text before rest behind at place is also next =
    let left : behind ≡ drop (at + 1) text = next ∙ ap (drop 1) also ∙ drop_more_one text at ∙ ap (λ i. drop i text) (sym (add-one at)) in
    let here : Some (before, behind) ≡ Some (take at text, drop (at + 1) text) = cc in
    here ∙ ap (option_map (λ i. (take i text, drop (i + 1) text))) place
