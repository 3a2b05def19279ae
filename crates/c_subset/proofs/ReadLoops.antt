-- Loops that read items one after another.
use Rattle.std.proofs.Common.{◌≡◌, ◌<◌, List, [], ◌∷◌, ◌++◌, length, Bool, true, false, Some, sym, ap, ◌∙◌, arith}
use Rattle.std.proofs.Common.{append_assoc, append-nil, length-append}
use Rattle.c_tokens.specs.Tokens.{Token}
use Rattle.c_tokens.specs.Parsing.{Parse, many}
use Rattle.c_tokens.specs.Gives.{Fails}
use Rattle.c_tokens.specs.declared.fault.ReadFault.{ReadFault}
use Rattle.c_tokens.proofs.Exact.{Reads, Starts}
use Rattle.c_tokens.proofs.Loops.{Reading, and_found, behind, reading_first, reading_more, reading_last, reading_fails}
use Rattle.c_tokens.proofs.Loops.{fails_made}

-- an item takes tokens
pub shorter : {A : Type 0} {F : List Token → Type 0} {P : A → Type 0} {sp : A → List Token} {p : Parse A}
    {starts : List Token → Bool} → Reads F P sp p → Starts P sp starts
    → (ts : List Token) (x : A) (rest : List Token) → p ts ≡ Some (x, rest) → length rest < length ts
shorter {A} {F} {P} {sp} {p} {starts} r st ts x rest e =
    let s = r.sound ts x rest e in
    let some = st.some x s.0 in
    omega (arith, some, ap length s.1, length-append (sp x) rest)

-- what was found behind other items, and what is read of the rest
pub record ReadingBehind {A : Type 0} (before : List A) (starts : List Token → Bool) (one : Parse A)
    (all : List Token) (items : List A) (rest : List Token) : Type 0 where
  pub found : List A
  pub are : items ≡ before ++ found
  pub reading : Reading starts one all found rest

pub behind_start : {A : Type 0} (before : List A) (starts : List Token → Bool) (one : Parse A) (all : List Token)
    (items : List A) → items ≡ before → ReadingBehind before starts one all items all
behind_start before starts one all items e = record {
  found = [];
  are = e ∙ sym (append-nil before);
  reading = reading_first starts one all;
}

pub behind_more : {A : Type 0} {before : List A} {starts : List Token → Bool} {one : Parse A} {all : List Token}
    {items : List A} {rest : List Token} (x : A) (left : List Token)
    → ReadingBehind before starts one all items rest → starts rest ≡ true → one rest ≡ Some (x, left)
    → length left < length rest → ReadingBehind before starts one all (items ++ x ∷ []) left
behind_more {A} {before} x left r e is less = record {
  found = r.found ++ x ∷ [];
  are = ap (λ l. l ++ x ∷ []) r.are ∙ append_assoc before r.found (x ∷ []);
  reading = reading_more x left r.reading e is less;
}

pub behind_last : {A : Type 0} {before : List A} {starts : List Token → Bool} {one : Parse A} {all : List Token}
    {items : List A} {rest : List Token} → ReadingBehind before starts one all items rest → starts rest ≡ false
    → behind before (many starts one all) ≡ Some (items, rest)
behind_last {A} {before} {starts} {one} {all} {items} {rest} r e =
    ap (behind before) (reading_last r.reading e) ∙ ap (λ l. Some (l, rest)) (sym r.are)

pub behind_fails : {A : Type 0} {before : List A} {starts : List Token → Bool} {one : Parse A} {all : List Token}
    {items : List A} {rest : List Token} (e : ReadFault) → ReadingBehind before starts one all items rest
    → starts rest ≡ true → Fails e (one rest) → Fails e (behind before (many starts one all))
behind_fails {A} {before} {starts} {one} {all} e r is h =
    fails_made e (many starts one all) (and_found before) (reading_fails e r.reading is h)
