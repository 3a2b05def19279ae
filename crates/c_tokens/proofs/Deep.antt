-- Depth, token by token.
use Rattle.std.proofs.Common.{◌≡◌, ℕ, true, false, ◌<◌, ◌≤◌, List, [], ◌∷◌, ◌++◌, Bool, ◌+◌, ◌-◌, ◌==◌, Option, Some}
use Rattle.std.proofs.Common.{None, length, refl, sym, ap, ◌∙◌, subst, arith, length-append}
use Rattle.std.specs.Prelude.{◌↔◌, IsTrue, nat_lt, if◌then◌else◌}
use Rattle.std.proofs.lemmas.Bool.Decides.{nat_tests}
use Rattle.c_tokens.specs.Tokens.{Token, word, mark, double_equals, arrow, between}
use Rattle.c_tokens.specs.Before.{before, tokens_before}
use Rattle.c_tokens.specs.Reading.{Reading, reading, no_token, with_first}
use Rattle.c_tokens.specs.Depth.{most_open, open_unless_deep, open_after, open_behind, IsDeep, IsTooDeep}

pub nothing_deep : (n : ℕ) → IsDeep n [] → ⊥
nothing_deep n d = omega (arith, ap length d.splits, length-append d.front (d.token ∷ d.rest))

pub deep_here : (n : ℕ) (t : Token) (ts : List Token) → most_open < n → IsDeep n (t ∷ ts)
deep_here n t ts h = record { front = []; token = t; rest = ts; splits = refl; inside = h }

same_first : (t x : Token) (ts us : List Token) → t ∷ ts ≡ x ∷ us → (x ≡ t) × (ts ≡ us)
same_first t x ts us e = ((cc), (cc))

deep_rest : (n : ℕ) (t x : Token) (ts front rest : List Token) → n ≤ most_open → t ∷ ts ≡ front ++ (x ∷ rest)
    → most_open < open_behind n front → IsDeep (open_after n t) ts
deep_rest n t x ts [] rest h e inside = absurd (omega (arith, inside, h))
deep_rest n t x ts (y ∷ front) rest h e inside =
    let same = same_first t y ts (front ++ (x ∷ rest)) e in
    let further = subst (λ u. most_open < open_behind (open_after n u) front) same.0 inside in
    record { front = front; token = x; rest = rest; splits = same.1; inside = further }

deep_more : (n : ℕ) (t : Token) (ts : List Token) → n ≤ most_open → IsDeep n (t ∷ ts) ↔ IsDeep (open_after n t) ts
deep_more n t ts h = (
  (λ d. deep_rest n t d.token ts d.front d.rest h d.splits d.inside),
  (λ d. record {
    front = t ∷ d.front;
    token = d.token;
    rest = d.rest;
    splits = ap (λ l. t ∷ l) d.splits;
    inside = d.inside;
  }),
)

by_bools : (n : ℕ) (a b : Bool) → (if a then n + 1 else if b then n - 1 else n) ≤ n + 1
by_bools n true b = omega arith
by_bools n false true = omega arith
by_bools n false false = omega arith

one_more : (n : ℕ) (t : Token) → open_after n t ≤ n + 1
one_more n (word w) = omega arith
one_more n (mark b) = by_bools n (b == 123) (b == 125)
one_more n double_equals = omega arith
one_more n arrow = omega arith

before_is : (text : List ℕ) → (reading text between).0 ≡ tokens_before text
unfolding reading
before_is text = refl

front_of : (text : List ℕ) (r : Reading) → reading text between ≡ r → r.0 ≡ tokens_before text
front_of text r e = sym (ap (λ x. x.0) e) ∙ before_is text

as_deep : (n : ℕ) (ts us : List Token) → ts ≡ us → IsDeep n ts → IsDeep n us
as_deep n ts us e d = subst (IsDeep n) e d

-- What is left of a text is too deep, with the braces that are open in front of it, exactly where the text is.
pub record SameDepth (n : ℕ) (rest text : List ℕ) : Type 0 where
  pub whole : IsDeep n (tokens_before rest) → IsTooDeep (tokens_before text)
  pub left : IsTooDeep (tokens_before text) → IsDeep n (tokens_before rest)

pub deep_so_far : (text : List ℕ) → SameDepth 0 text text
deep_so_far text = record { whole = λ d. d; left = λ d. d }

same_behind : (n m : ℕ) (text rest behind : List ℕ)
    → (IsDeep n (tokens_before rest) ↔ IsDeep m (tokens_before behind)) → SameDepth n rest text
    → SameDepth m behind text
same_behind n m text rest behind both same =
    record { whole = λ d. same.whole (both.1 d); left = λ d. both.0 (same.left d) }

as_deep_both : (n : ℕ) (ts us : List Token) → ts ≡ us → IsDeep n ts ↔ IsDeep n us
as_deep_both n ts us e = ((λ d. as_deep n ts us e d), (λ d. as_deep n us ts (sym e) d))

front_is : (rest behind : List ℕ) (t : Token) → reading rest between ≡ with_first (Some t) (reading behind between)
    → tokens_before rest ≡ t ∷ tokens_before behind
front_is rest behind t e = sym (front_of rest (with_first (Some t) (reading behind between)) e)
    ∙ ap (λ l. t ∷ l) (before_is behind)

-- a token with few enough braces around it, and one with too many
record Few (n m : ℕ) (t : Token) : Type 0 where
  few : n ≤ most_open
  is : m ≡ open_after n t

some_same : (x y : ℕ) → Some x ≡ Some y → x ≡ y
some_same x y e = cc

few_by : (n m : ℕ) (t : Token) (b : Bool) → nat_lt most_open n ≡ b
    → Some m ≡ (if b then None else Some (open_after n t)) → Few n m t
few_by n m t true e h = absurd (cc)
few_by n m t false e h = record { few = grind (arith, nat_tests); is = some_same m (open_after n t) h }

many_by : (n : ℕ) (t : Token) (b : Bool) → nat_lt most_open n ≡ b
    → None ≡ (if b then None else Some (open_after n t)) → most_open < n
many_by n t true e h = grind (arith, nat_tests)
many_by n t false e h = absurd (cc)

next_by : (n m : ℕ) (rest behind : List ℕ) (t : Token) → Few n m t
    → reading rest between ≡ with_first (Some t) (reading behind between)
    → IsDeep n (tokens_before rest) ↔ IsDeep m (tokens_before behind)
next_by n m rest behind t f e =
    let front = front_is rest behind t e in
    let both = deep_more n t (tokens_before behind) f.few in (
      (λ d. subst (λ k. IsDeep k (tokens_before behind)) (sym f.is) (both.0 (as_deep n _ _ front d))),
      (λ d. as_deep n _ _ (sym front) (both.1 (subst (λ k. IsDeep k (tokens_before behind)) f.is d))),
    )

pub deep_next : (n m : ℕ) (text rest behind : List ℕ) (t : Option Token) → Some m ≡ open_unless_deep n t
    → reading rest between ≡ with_first t (reading behind between)
    → SameDepth n rest text → SameDepth m behind text
deep_next n m text rest behind None h e same =
    let front = sym (front_of rest (reading behind between) e) ∙ before_is behind in
    subst (λ k. SameDepth k behind text) (sym (some_same m n h))
    (same_behind n n text rest behind (as_deep_both n (tokens_before rest) (tokens_before behind) front) same)
deep_next n m text rest behind (Some t) h e same =
    same_behind n m text rest behind (next_by n m rest behind t (few_by n m t (nat_lt most_open n) refl h) e) same

pub few_open : (n m : ℕ) (t : Option Token) → n ≤ 129 → Some m ≡ open_unless_deep n t → m ≤ 129
few_open n m None h e = omega (arith, h, some_same m n e)
few_open n m (Some t) h e =
    let f = few_by n m t (nat_lt most_open n) refl e in
    omega (arith, f.few, f.is, one_more n t)

none_not : false ≡ true → ⊥
none_not e = cc

not_deep : (n : ℕ) (text rest : List ℕ) → tokens_before rest ≡ [] → SameDepth n rest text
    → IsTrue false ↔ IsTooDeep (tokens_before text)
not_deep n text rest e same =
    ((λ h. absurd (none_not h)), (λ p. absurd (nothing_deep n (as_deep n _ _ e (same.left p)))))

none_before : (rest : List ℕ) → length rest ≡ 0 → tokens_before rest ≡ []
unfolding before
none_before [] h = refl
none_before (b ∷ bs) h = absurd (omega (arith, h))

pub deep_at_end : (n : ℕ) (text rest : List ℕ) → length rest ≡ 0 → SameDepth n rest text
    → IsTrue false ↔ IsTooDeep (tokens_before text)
deep_at_end n text rest e same = not_deep n text rest (none_before rest e) same

pub deep_at_none : (n : ℕ) (text rest : List ℕ) → reading rest between ≡ no_token → SameDepth n rest text
    → IsTrue false ↔ IsTooDeep (tokens_before text)
deep_at_none n text rest e same = not_deep n text rest (sym (front_of rest no_token e)) same

pub deep_at_token : (n : ℕ) (text rest behind : List ℕ) (t : Option Token) → None ≡ open_unless_deep n t
    → reading rest between ≡ with_first t (reading behind between)
    → SameDepth n rest text → IsTrue true ↔ IsTooDeep (tokens_before text)
deep_at_token n text rest behind None h e same = absurd (cc)
deep_at_token n text rest behind (Some t) h e same =
    let many = many_by n t (nat_lt most_open n) refl h in
    let here = deep_here n t (tokens_before behind) many in
    ((λ _. same.whole (as_deep n _ _ (sym (front_is rest behind t e)) here)), (λ _. refl))

pub ruleset depth_steps = (deep_so_far, deep_next, few_open, deep_at_end, deep_at_none, deep_at_token)
