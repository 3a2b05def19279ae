-- Words that are two parts, by their parts.
use Rattle.std.proofs.Common.{◌≡◌, ℕ, List, [], ◌∷◌, ◌++◌, length, take, drop, Bool, true, false, cond, Option, Some}
use Rattle.std.proofs.Common.{None, option_and_then, refl, sym, ap, ◌∙◌, arith}
use Rattle.std.specs.Prelude.{nat_eq}
use Rattle.std.specs.Cmp.Lexicographic.{pointwise}
use Rattle.std.proofs.lemmas.Bool.Decides.{nat_tests}
use Rattle.c_tokens.specs.Parsing.{after, first_word}
use Rattle.c_tokens.specs.Tokens.{Token, word, mark, double_equals, arrow}
use Rattle.c_tokens.specs.WordParsing.{strip, name_behind}
use Rattle.c_tokens.proofs.Exact.{bytes_are, some_is}
use Rattle.c_tokens.proofs.Fronts.{behind_front, not_behind}
use Rattle.c_tokens.proofs.WordsRead.{strip_again, strip_sound, name_behind_parts}

none_is : {A : Type 0} (o : Option A) → ((x : A) → o ≡ Some x → ⊥) → o ≡ None
none_is None h = refl
none_is (Some x) h = absurd (h x refl)

strip_some : (a w rest : List ℕ) → pointwise nat_eq (take (length a) w) a ≡ true → rest ≡ drop (length a) w
    → strip a w ≡ Some rest
strip_some a w rest h e = ap (strip a) (behind_front a w rest h e) ∙ strip_again a rest

strip_none : (a w : List ℕ) → pointwise nat_eq (take (length a) w) a ≡ false → strip a w ≡ None
strip_none a w h = none_is (strip a w) (λ x e. not_behind a w x h (strip_sound a w x e))

-- a name behind both parts
pub behind_some : (a b w rest : List ℕ) → pointwise nat_eq (take (length a) w) a ≡ true → rest ≡ drop (length a) w
    → name_behind b rest ≡ name_behind (a ++ b) w
behind_some a b w rest h e =
    sym (name_behind_parts a b w ∙ ap (option_and_then (name_behind b)) (strip_some a w rest h e))

pub behind_none : (a b w : List ℕ) → pointwise nat_eq (take (length a) w) a ≡ false → None ≡ name_behind (a ++ b) w
behind_none a b w h = sym (name_behind_parts a b w ∙ ap (option_and_then (name_behind b)) (strip_none a w h))

pub ruleset behind_steps = (behind_some, behind_none)

-- the bytes of both parts
same_front : (a b rest : List ℕ) → pointwise nat_eq (a ++ b) (a ++ rest) ≡ pointwise nat_eq b rest
same_front [] b rest = refl
same_front (x ∷ a) b rest =
    let h : pointwise nat_eq (a ++ b) (a ++ rest) ≡ pointwise nat_eq b rest = same_front a b rest in
    let k : nat_eq x x ≡ true = grind (arith, nat_tests) in
    rw (k, h) refl

pub joined_some : (a b w rest : List ℕ) → pointwise nat_eq (take (length a) w) a ≡ true → rest ≡ drop (length a) w
    → pointwise nat_eq b rest ≡ pointwise nat_eq (a ++ b) w
joined_some a b w rest h e =
    sym (ap (pointwise nat_eq (a ++ b)) (behind_front a w rest h e) ∙ same_front a b rest)

true_is : (t : Bool) → (t ≡ true → ⊥) → false ≡ t
true_is true h = absurd (h refl)
true_is false h = refl

pub joined_none : (a b w : List ℕ) → pointwise nat_eq (take (length a) w) a ≡ false
    → false ≡ pointwise nat_eq (a ++ b) w
joined_none a b w h =
    true_is (pointwise nat_eq (a ++ b) w) (λ e. not_behind a w b h (sym (bytes_are (a ++ b) w e)))

pub ruleset joined_steps = (joined_some, joined_none)

-- the first word, where it is this one
pub taken_some : (w v : List ℕ) (ts rest : List Token) → Some (v, rest) ≡ first_word ts → pointwise nat_eq w v ≡ true
    → Some rest ≡ after (word w ∷ []) ts
unfolding after
taken_some w v [] rest e h = absurd cc
taken_some w v (word u ∷ ts) rest e h =
    let q = some_is (v, rest) (u, ts) e in
    ap (λ x. Some x.1) q
    ∙ sym (ap (λ b. cond b (Some ts) None) (sym (ap (λ x. pointwise nat_eq w x.0) q) ∙ h))
taken_some w v (mark b ∷ ts) rest e h = absurd cc
taken_some w v (double_equals ∷ ts) rest e h = absurd cc
taken_some w v (arrow ∷ ts) rest e h = absurd cc

pub taken_other : (w v : List ℕ) (ts rest : List Token) → Some (v, rest) ≡ first_word ts → pointwise nat_eq w v ≡ false
    → None ≡ after (word w ∷ []) ts
unfolding after
taken_other w v [] rest e h = refl
taken_other w v (word u ∷ ts) rest e h =
    let q = some_is (v, rest) (u, ts) e in
    sym (ap (λ b. cond b (Some ts) None) (sym (ap (λ x. pointwise nat_eq w x.0) q) ∙ h))
taken_other w v (mark b ∷ ts) rest e h = refl
taken_other w v (double_equals ∷ ts) rest e h = refl
taken_other w v (arrow ∷ ts) rest e h = refl

pub taken_none : (w : List ℕ) (ts : List Token) → None ≡ first_word ts → None ≡ after (word w ∷ []) ts
unfolding after
taken_none w [] e = refl
taken_none w (word u ∷ ts) e = absurd cc
taken_none w (mark b ∷ ts) e = refl
taken_none w (double_equals ∷ ts) e = refl
taken_none w (arrow ∷ ts) e = refl

pub ruleset taken_steps = (taken_some, taken_other, taken_none)
