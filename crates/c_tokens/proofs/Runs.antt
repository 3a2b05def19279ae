-- Fixed runs of tokens, token by token and at a place of a list.
use Rattle.std.proofs.Common.{◌≡◌, ℕ, ◌+◌, ◌≤◌, List, [], ◌∷◌, length, drop, Bool, true, false, cond, ◌&&◌, Option, Some, None, option_map, refl, sym, ap, ◌∙◌, arith, length-drop}
use Rattle.std.proofs.lemmas.List.{drop-drop}
use Rattle.std.specs.Prelude.{is_some}
use Rattle.c_tokens.specs.Tokens.{Token, word, mark, double_equals, arrow}
use Rattle.c_tokens.specs.Parsing.{same_token, after, begins, first_word}
use Rattle.c_tokens.proofs.Exact.{some_is}

pub begins_nothing : (ts : List Token) → begins [] ts ≡ true
unfolding begins after
begins_nothing ts = refl

pub begins_short : (f : Token) (fs : List Token) → begins (f ∷ fs) [] ≡ false
unfolding begins after
begins_short f fs = refl

by_test : (b : Bool) (fs ts : List Token) → is_some (cond b (after fs ts) None) ≡ (b && is_some (after fs ts))
by_test true fs ts = refl
by_test false fs ts = refl

pub begins_step : (f t : Token) (fs ts : List Token) → begins (f ∷ fs) (t ∷ ts) ≡ (same_token f t && begins fs ts)
unfolding begins after
begins_step f t fs ts = by_test (same_token f t) fs ts

none_is : {A : Type 0} (o : Option A) → is_some o ≡ false → o ≡ None
none_is None h = refl
none_is (Some x) h = absurd cc

-- where a run begins, the rest is what is behind it
pub begins_rest : (fs ts : List Token) → begins fs ts ≡ true → after fs ts ≡ Some (drop (length fs) ts)
unfolding begins after
begins_rest [] ts h = refl
begins_rest (f ∷ fs) [] h = absurd cc
begins_rest (f ∷ fs) (t ∷ ts) h = elim (same_token f t) as (λ b. is_some (cond b (after fs ts) None) ≡ true → cond b (after fs ts) None ≡ Some (drop (length fs) ts)) [
  | true ↦ λ k. begins_rest fs ts k
  | false ↦ λ k. absurd (let q : false ≡ true = k in cc)
] h

pub begins_none : (fs ts : List Token) → begins fs ts ≡ false → after fs ts ≡ None
unfolding begins
begins_none fs ts h = none_is (after fs ts) h

pub begins_fits : (fs ts : List Token) → begins fs ts ≡ true → length fs ≤ length ts
unfolding begins after
begins_fits [] ts h = omega arith
begins_fits (f ∷ fs) [] h = absurd cc
begins_fits (f ∷ fs) (t ∷ ts) h = elim (same_token f t) as (λ b. is_some (cond b (after fs ts) None) ≡ true → length (f ∷ fs) ≤ length (t ∷ ts)) [
  | true ↦ λ k. omega (arith, begins_fits fs ts k)
  | false ↦ λ k. absurd (let q : false ≡ true = k in cc)
] h

-- the word that stands first, and what is behind it
pub word_rest : (ts : List Token) (w : List ℕ) → option_map (λ (x : List ℕ × List Token). x.0) (first_word ts) ≡ Some w → first_word ts ≡ Some (w, drop 1 ts)
word_rest [] w h = absurd cc
word_rest (word v ∷ ts) w h = let e : v ≡ w = some_is v w h in λ i. Some (e i, ts)
word_rest (mark b ∷ ts) w h = absurd cc
word_rest (double_equals ∷ ts) w h = absurd cc
word_rest (arrow ∷ ts) w h = absurd cc

pub no_word : (ts : List Token) → option_map (λ (x : List ℕ × List Token). x.0) (first_word ts) ≡ None → first_word ts ≡ None
no_word [] h = refl
no_word (word v ∷ ts) h = absurd cc
no_word (mark b ∷ ts) h = refl
no_word (double_equals ∷ ts) h = refl
no_word (arrow ∷ ts) h = refl

-- the same at a place of all tokens
pub take_some : (all now fs : List Token) (at n : ℕ) → drop at all ≡ now → length fs ≡ n → begins fs now ≡ true → Some (drop (at + n) all) ≡ after fs now
take_some all now fs at n e f h =
    ap (λ m. Some (drop (at + m) all)) (sym f)
    ∙ ap Some (sym (drop-drop (length fs) at all))
    ∙ ap (λ l. Some (drop (length fs) l)) e
    ∙ sym (begins_rest fs now h)

pub take_fits : (all now fs : List Token) (at n : ℕ) → at ≤ length all → drop at all ≡ now → length fs ≡ n → begins fs now ≡ true → at + n ≤ length all
take_fits all now fs at n le e f h = omega (arith, begins_fits fs now h, ap length e, length-drop at all)

pub word_some : (all now : List Token) (at : ℕ) (w : List ℕ) → drop at all ≡ now → option_map (λ (x : List ℕ × List Token). x.0) (first_word now) ≡ Some w → Some (w, drop (at + 1) all) ≡ first_word now
word_some all now at w e h = ap (λ l. Some (w, l)) (sym (drop-drop 1 at all) ∙ ap (drop 1) e) ∙ sym (word_rest now w h)

pub word_fits : (all now : List Token) (at : ℕ) (w : List ℕ) → at ≤ length all → drop at all ≡ now → option_map (λ (x : List ℕ × List Token). x.0) (first_word now) ≡ Some w → at + 1 ≤ length all
word_fits all [] at w le e h = absurd cc
word_fits all (t ∷ ts) at w le e h = omega (arith, ap length e, length-drop at all)
