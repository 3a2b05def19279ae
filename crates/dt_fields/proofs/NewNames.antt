-- Names that nothing in a list has.
use Rattle.std.proofs.Common.{◌≡◌, ℕ, Bool, true, false, cond, List, [], ◌∷◌, Option, Some, refl, sym}
use Rattle.std.specs.Prelude.{◌≢◌, All, find, is_some}
use Rattle.std.specs.List.{list_any}
use Rattle.std.specs.Map.{lookup}
use Rattle.std.specs.Cmp.Lexicographic.{other_text}
use Rattle.std.proofs.lemmas.Bool.{or_parts}
use Rattle.std.proofs.lemmas.List.Elements.{All-nil, All-cons, All-weaker}
use Rattle.dt_values.specs.Types.{is_text}

pub none_passes : {X : Type 0} (p : X → Bool) (xs : List X) → list_any p xs ≡ false → All (λ x. p x ≡ false) xs
none_passes p [] h = All-nil (λ x. p x ≡ false)
none_passes p (x ∷ xs) h =
    let parts : (p x ≡ false) × (list_any p xs ≡ false) = or_parts (p x) (list_any p xs) h in
    All-cons (λ x. p x ≡ false) x xs parts.0 (none_passes p xs parts.1)

choice_none : {X : Type 0} (b : Bool) (x : X) (o : Option X) → is_some (cond b (Some x) o) ≡ false → (b ≡ false) × (is_some o ≡ false)
choice_none true x o h = absurd (cc)
choice_none false x o h = (refl, h)

pub none_found : {X : Type 0} (p : X → Bool) (xs : List X) → is_some (find p xs) ≡ false → All (λ x. p x ≡ false) xs
none_found p [] h = All-nil (λ x. p x ≡ false)
none_found p (x ∷ xs) h =
    let parts : (p x ≡ false) × (is_some (find p xs) ≡ false) = choice_none (p x) x (find p xs) h in
    All-cons (λ x. p x ≡ false) x xs parts.0 (none_found p xs parts.1)

pub none_held : {X : Type 0} (p : List ℕ → Bool) (es : List (List ℕ × X)) → is_some (lookup p es) ≡ false → All (λ e. p e.0 ≡ false) es
none_held p [] h = All-nil (λ e. p e.0 ≡ false)
none_held p (e ∷ es) h =
    let parts : (p e.0 ≡ false) × (is_some (lookup p es) ≡ false) = choice_none (p e.0) e.1 (lookup p es) h in
    All-cons (λ e. p e.0 ≡ false) e es parts.0 (none_held p es parts.1)

-- what isn't named so by its text has another name
pub other_names : {X : Type 0} (name_of : X → List ℕ) (name : List ℕ) (xs : List X)
    → All (λ x. is_text name (name_of x) ≡ false) xs → All (λ x. name_of x ≢ name) xs
other_names name_of name xs all =
    All-weaker (λ x. is_text name (name_of x) ≡ false) (λ x. name_of x ≢ name) (λ x other same. other_text name (name_of x) (sym other) (sym same)) xs all
