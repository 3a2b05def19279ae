-- Bytes behind other bytes.
use Rattle.std.proofs.Common.{◌≡◌, ℕ, List, ◌++◌, length, take, drop, Bool, true, false, sym, ap, ◌∙◌, subst}
use Rattle.std.specs.Prelude.{nat_eq, Option, Some, None}
use Rattle.std.specs.Cmp.Lexicographic.{pointwise, bytes_decides}
use Rattle.std.specs.Option.{SomeIff}
use Rattle.std.proofs.Math.Seq.{take-append_seam}
use Rattle.std.proofs.lemmas.List.{take-append-drop, append_cancel_left}
use Rattle.dt_values.specs.Names.{IsName}
use Rattle.c_tokens.specs.Words.{IsNameBehind}

false_not : (b : Bool) → b ≡ true → b ≡ false → ⊥
false_not b h k = let e : true ≡ false = sym h ∙ k in cc

-- bytes behind fixed ones
pub behind_front : (fixed bytes rest : List ℕ) → pointwise nat_eq (take (length fixed) bytes) fixed ≡ true
    → rest ≡ drop (length fixed) bytes → bytes ≡ fixed ++ rest
behind_front fixed bytes rest h e =
    let front : take (length fixed) bytes ≡ fixed = (bytes_decides (take (length fixed) bytes) fixed).0 h in
    sym (take-append-drop (length fixed) bytes) ∙ (λ i. front i ++ sym e i)

pub not_behind : (fixed bytes rest : List ℕ) → pointwise nat_eq (take (length fixed) bytes) fixed ≡ false
    → bytes ≡ fixed ++ rest → ⊥
not_behind fixed bytes rest h e =
    false_not (pointwise nat_eq (take (length fixed) bytes) fixed)
    ((bytes_decides (take (length fixed) bytes) fixed).1 (ap (take (length fixed)) e ∙ take-append_seam fixed rest)) h

-- names
pub no_front : (fixed word : List ℕ) → pointwise nat_eq (take (length fixed) word) fixed ≡ false → (name : List ℕ)
    → IsName name → word ≡ fixed ++ name → ⊥
no_front fixed word h name is e = not_behind fixed word name h e

pub name_by : (fixed word rest : List ℕ) (r : Option (List ℕ))
    → pointwise nat_eq (take (length fixed) word) fixed ≡ true → rest ≡ drop (length fixed) word
    → SomeIff r (IsName rest) rest → IsNameBehind fixed word r
name_by fixed word rest None h e is =
    λ name named same. is (subst (λ x. IsName x)
    (append_cancel_left fixed name rest (sym same ∙ behind_front fixed word rest h e)) named)
name_by fixed word rest (Some name) h e is =
    subst (λ x. IsName x × (word ≡ fixed ++ x)) (sym is.1) (is.0, behind_front fixed word rest h e)
