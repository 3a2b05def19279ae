-- The number below a limit that a decimal word spells, from the number below 2^64 that it spells.
use Rattle.std.proofs.Common.{◌≡◌, ℕ, ◌<◌, ◌≤◌, ◌^◌, List, Option, Some, None, refl, sym, ap, subst, ◌∙◌, arith}
use Rattle.std.specs.Prelude.{decimal}
use Rattle.std.proofs.lemmas.Fmt.{decimal_injective}
use Rattle.c_tokens.specs.Words.{IsNumber}
use Rattle.c_tokens.specs.WordParsing.{number_of}
use Rattle.c_tokens.proofs.WordsRead.{number_decodes}

none_is : {A : Type 0} (o : Option A) → ((x : A) → o ≡ Some x → ⊥) → None ≡ o
none_is None h = refl
none_is (Some x) h = absurd (h x refl)

pub number_none : (limit : ℕ) (w : List ℕ) (r : Option ℕ) → limit ≤ 2 ^ 64 → IsNumber (2 ^ 64) decimal w r → r ≡ None
    → None ≡ number_of limit w
number_none limit w r le h e =
    let none : IsNumber (2 ^ 64) decimal w None = subst (IsNumber (2 ^ 64) decimal w) e h in
    none_is (number_of limit w) (λ n found.
    let s = (number_decodes limit le).sound w n found in
    none n (omega (arith, s.0)) s.1)

pub number_small : (limit : ℕ) (w : List ℕ) (r : Option ℕ) (n : ℕ) → limit ≤ 2 ^ 64 → IsNumber (2 ^ 64) decimal w r
    → r ≡ Some n → n < limit → Some n ≡ number_of limit w
number_small limit w r n le h e below =
    let some : IsNumber (2 ^ 64) decimal w (Some n) = subst (IsNumber (2 ^ 64) decimal w) e h in
    sym (ap (number_of limit) some.1 ∙ (number_decodes limit le).again n below)

pub number_large : (limit : ℕ) (w : List ℕ) (r : Option ℕ) (n : ℕ) → limit ≤ 2 ^ 64 → IsNumber (2 ^ 64) decimal w r
    → r ≡ Some n → limit ≤ n → None ≡ number_of limit w
number_large limit w r n le h e above =
    let some : IsNumber (2 ^ 64) decimal w (Some n) = subst (IsNumber (2 ^ 64) decimal w) e h in
    none_is (number_of limit w) (λ m found.
    let s = (number_decodes limit le).sound w m found in
    let same : m ≡ n = decimal_injective m n (omega (arith, s.0)) some.0 (sym s.1 ∙ some.1) in
    absurd (omega (arith, s.0, same)))
