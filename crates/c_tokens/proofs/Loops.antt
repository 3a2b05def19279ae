-- Items that a loop reads one after another.
use Rattle.std.proofs.Common.{◌≡◌, ℕ, zero, suc, ◌<◌, ◌≤◌, List, [], ◌∷◌, ◌++◌, length, Bool, true, false, cond, Option, Some, None, option_map, option_and_then, refl, sym, ap, ◌∙◌, arith, append_assoc, append-nil, Result, subst}
use Rattle.std.proofs.lemmas.Result.{err_from_is_err_and}
use Rattle.std.specs.Result.{IsErrAnd}
use Rattle.c_tokens.specs.Tokens.{Token}
use Rattle.c_tokens.specs.declared.fault.ReadFault.{ReadFault}
use Rattle.c_tokens.specs.declared.fault.ReadFault.TheVariants as fault
use Rattle.c_tokens.specs.Gives.{Fails, Gives}
use Rattle.c_tokens.specs.Parsing.{Parse, turn, many_at, many}

-- what was found, and then what else is read
abbrev pub and_found : {A : Type 0} → List A → List A × List Token → List A × List Token
and_found found x = (found ++ x.0, x.1)

abbrev pub behind : {A : Type 0} → List A → Option (List A × List Token) → Option (List A × List Token)
behind found r = option_map (and_found found) r

behind_nothing : {A : Type 0} (r : Option (List A × List Token)) → behind [] r ≡ r
behind_nothing None = refl
behind_nothing (Some x) = refl

abbrev put_first : {A : Type 0} → A → List A × List Token → List A × List Token
put_first x y = (x ∷ y.0, y.1)

behind_first : {A : Type 0} (found : List A) (x : A) (r : Option (List A × List Token)) → behind found (option_map (put_first x) r) ≡ behind (found ++ x ∷ []) r
behind_first found x None = refl
behind_first found x (Some y) = ap (λ l. Some (l, y.1)) (sym (append_assoc found (x ∷ []) y.0))

-- what was found, and what is read of the rest, are what is read of all
pub record Reading {A : Type 0} (starts : List Token → Bool) (one : Parse A) (all : List Token) (found : List A) (rest : List Token) : Type 0 where
  pub turns : ℕ
  pub enough : length rest < turns
  pub same : behind found (many_at starts one turns rest) ≡ many starts one all

pub reading_first : {A : Type 0} (starts : List Token → Bool) (one : Parse A) (all : List Token) → Reading starts one all [] all
reading_first starts one all = record { turns = suc (length all); enough = omega arith; same = behind_nothing _ }

one_turn : {A : Type 0} (starts : List Token → Bool) (one : Parse A) (n : ℕ) (rest : List Token) (b : Bool) → starts rest ≡ b → length rest < n → (k : ℕ) × (length rest ≤ k) × (many_at starts one n rest ≡ cond b (turn one (many_at starts one k) rest) (Some ([], rest)))
unfolding many_at
one_turn starts one zero rest b e h = absurd (omega arith)
one_turn starts one (suc k) rest b e h = (k, omega arith, ap (λ c. cond c (turn one (many_at starts one k) rest) (Some ([], rest))) e)

abbrev and_more : {A : Type 0} → Parse (List A) → A × List Token → Option (List A × List Token)
and_more more x = option_map (put_first x.0) (more x.1)

pub reading_more : {A : Type 0} {starts : List Token → Bool} {one : Parse A} {all : List Token} {found : List A} {rest : List Token} (x : A) (left : List Token) → Reading starts one all found rest → starts rest ≡ true → one rest ≡ Some (x, left) → length left < length rest → Reading starts one all (found ++ x ∷ []) left
reading_more {A} {starts} {one} {all} {found} {rest} x left r e is shorter =
    let t = one_turn starts one r.turns rest true e r.enough in
    let k = t.0 in
    let next : many_at starts one r.turns rest ≡ option_map (put_first x) (many_at starts one k left) = t.2 ∙ ap (option_and_then (and_more (many_at starts one k))) is in
    record { turns = k; enough = omega (arith, t.1); same = sym (behind_first found x (many_at starts one k left)) ∙ ap (behind found) (sym next) ∙ r.same }

pub reading_last : {A : Type 0} {starts : List Token → Bool} {one : Parse A} {all : List Token} {found : List A} {rest : List Token} → Reading starts one all found rest → starts rest ≡ false → many starts one all ≡ Some (found, rest)
reading_last {A} {starts} {one} {all} {found} {rest} r e =
    let t = one_turn starts one r.turns rest false e r.enough in
    sym r.same ∙ ap (behind found) t.2 ∙ ap (λ l. Some (l, rest)) (append-nil found)

reading_none : {A : Type 0} {starts : List Token → Bool} {one : Parse A} {all : List Token} {found : List A} {rest : List Token} → Reading starts one all found rest → starts rest ≡ true → one rest ≡ None → many starts one all ≡ None
reading_none {A} {starts} {one} {all} {found} {rest} r e is =
    let t = one_turn starts one r.turns rest true e r.enough in
    sym r.same ∙ ap (behind found) (t.2 ∙ ap (option_and_then (and_more (many_at starts one t.0))) is)

pub reading_fails : {A : Type 0} {starts : List Token → Bool} {one : Parse A} {all : List Token} {found : List A} {rest : List Token} (e : ReadFault) → Reading starts one all found rest → starts rest ≡ true → Fails e (one rest) → Fails e (many starts one all)
reading_fails fault.NotSubset r e h = reading_none r e h
reading_fails fault.NoMemory r e h = tt

-- a failure stays one in a further step
pub fails_made : {A B : Type 0} (e : ReadFault) (r : Option A) (f : A → B) → Fails e r → Fails e (option_map f r)
fails_made fault.NotSubset r f h = ap (option_map f) h
fails_made fault.NoMemory r f h = tt

-- what the exit of a `?` returns
pub gives_err : {X Y : Type 0} (view : X → Y) (r : Result X ReadFault) (e : ReadFault) (read : Option Y) → IsErrAnd r (λ y. y ≡ e) → Fails e read → Gives view r read
gives_err {X} view r e read is h =
    let x = err_from_is_err_and r is in
    let P : Result X ReadFault → Type 0 = λ q. Gives view q read in
    let Q : ReadFault → Type 0 = λ d. Fails d read in
    subst P (sym x.1) (subst Q (sym x.2) h)
