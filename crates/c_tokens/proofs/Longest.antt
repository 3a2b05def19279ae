-- The tokens before the first place that is none are those of the longest front that has tokens.
use Rattle.std.proofs.Common.{◌≡◌, ℕ, List, [], ◌∷◌, ◌++◌, Option, Some, None, option_map, ◌⊎◌, inl, inr, true, false}
use Rattle.std.proofs.Common.{refl, sym, ap, ◌∙◌, subst, append-nil}
use Rattle.std.specs.Prelude.{IsSome, is_some}
use Rattle.c_tokens.specs.Tokens.{Token, kind, Mode, between, in_word, after_equals, after_dash, after_slash}
use Rattle.c_tokens.specs.Tokens.{in_comment, after_star, Read, step, and_then, read, ends, whole}
use Rattle.c_tokens.proofs.Seeing.{put_ends}
use Rattle.c_tokens.specs.Before.{last_token, go_on, before, tokens_before, IsLongestFront}
use Rattle.c_tokens.proofs.Comments.{comment_begins}

-- a front that has tokens from a mode on, and the longest one
record Longest (text : List ℕ) (m : Mode) (tokens : List Token) : Type 0 where
  front : List ℕ
  rest : List ℕ
  splits : text ≡ front ++ rest
  has : whole (read front m) ≡ Some tokens
  longest : (more behind : List ℕ) → rest ≡ more ++ behind → IsSome (whole (read (front ++ more) m)) → more ≡ []

-- no front has tokens, as the text goes on in a comment
record NoFront (text : List ℕ) (m : Mode) (tokens : List Token) : Type 0 where
  none : (front behind : List ℕ) → text ≡ front ++ behind → whole (read front m) ≡ None
  empty : tokens ≡ []

abbrev Fronts : List ℕ → Mode → List Token → Type 0
Fronts text m tokens = Longest text m tokens ⊎ NoFront text m tokens

-- whether the text may end in this mode
abbrev EndOrNot : Mode → Type 0
EndOrNot m = (ends m ≡ Some (last_token m)) ⊎ ((ends m ≡ None) × (last_token m ≡ []))

end_or_not : (m : Mode) → EndOrNot m
end_or_not between = inl refl
end_or_not (in_word w) = inl refl
end_or_not after_equals = inl refl
end_or_not after_dash = inl refl
end_or_not after_slash = inr (refl, refl)
end_or_not in_comment = inr (refl, refl)
end_or_not after_star = inr (refl, refl)

at_end : (m : Mode) → whole (read [] m) ≡ ends m
unfolding read
at_end between = refl
at_end (in_word w) = refl
at_end after_equals = refl
at_end after_dash = refl
at_end after_slash = refl
at_end in_comment = refl
at_end after_star = refl

none_some : {A : Type 0} {B : Type 0} (o : Option A) → o ≡ None → IsSome o → B
none_some o e h = let k : false ≡ true = ap (λ x. is_some x) (sym e) ∙ h in absurd (cc)

-- where each front with a byte has no tokens, the empty one is the longest, or no front has any
by_empty : (text : List ℕ) (m : Mode) (tokens : List Token) → tokens ≡ last_token m
    → ((x : ℕ) (xs behind : List ℕ) → text ≡ (x ∷ xs) ++ behind → whole (read (x ∷ xs) m) ≡ None)
    → EndOrNot m → Fronts text m tokens
by_empty text m tokens is none (inl e) = inl (record {
  front = [];
  rest = text;
  splits = refl;
  has = at_end m ∙ e ∙ ap Some (sym is);
  longest = empty_longest;
}) where
  empty_longest : (more behind : List ℕ) → text ≡ more ++ behind → IsSome (whole (read more m)) → more ≡ []
  empty_longest [] behind same some = refl
  empty_longest (x ∷ xs) behind same some = none_some (whole (read (x ∷ xs) m)) (none x xs behind same) some
by_empty text m tokens is none (inr e) = inr (record { none = no_front; empty = is ∙ e.1 }) where
  no_front : (front behind : List ℕ) → text ≡ front ++ behind → whole (read front m) ≡ None
  no_front [] behind same = at_end m ∙ e.0
  no_front (x ∷ xs) behind same = none x xs behind same

same_first : (b x : ℕ) (bs xs : List ℕ) → b ∷ bs ≡ x ∷ xs → (x ≡ b) × (bs ≡ xs)
same_first b x bs xs e = ((cc), (cc))

-- what is read of a first byte and more
read_more : (b : ℕ) (bs : List ℕ) (m : Mode) → read (b ∷ bs) m ≡ and_then (read bs) (step m (kind b) b)
unfolding read
read_more b bs m = refl

read_none : (b : ℕ) (bs : List ℕ) (m : Mode) → step m (kind b) b ≡ None → whole (read (b ∷ bs) m) ≡ None
read_none b bs m e = ap whole (read_more b bs m ∙ ap (and_then (read bs)) e)

read_some : (b : ℕ) (bs : List ℕ) (m : Mode) (r : Read) → step m (kind b) b ≡ Some r
    → whole (read (b ∷ bs) m) ≡ option_map (λ ts. r.0 ++ ts) (whole (read bs r.1))
read_some b bs m r e = ap whole (read_more b bs m ∙ ap (and_then (read bs)) e) ∙ put_ends r.0 (read bs r.1)

some_before : (ts : List Token) (o : Option (List Token)) → IsSome (option_map (λ us. ts ++ us) o) → IsSome o
some_before ts None h = h
some_before ts (Some us) h = refl

longer : (b : ℕ) (bs : List ℕ) (m : Mode) (r : Read) (tokens : List Token) → step m (kind b) b ≡ Some r
    → Longest bs r.1 tokens → Longest (b ∷ bs) m (r.0 ++ tokens)
longer b bs m r tokens e l = record {
  front = b ∷ l.front;
  rest = l.rest;
  splits = ap (λ x. b ∷ x) l.splits;
  has = read_some b l.front m r e ∙ ap (option_map (λ ts. r.0 ++ ts)) l.has;
  longest = λ more behind same some. l.longest more behind same
      (some_before r.0 (whole (read (l.front ++ more) r.1))
      (subst (λ o. IsSome o) (read_some b (l.front ++ more) m r e) some));
}

by_rest : (b : ℕ) (bs : List ℕ) (m : Mode) (r : Read) (tokens : List Token) → step m (kind b) b ≡ Some r
    → Fronts bs r.1 tokens → Fronts (b ∷ bs) m (r.0 ++ tokens)
by_rest b bs m r tokens e (inl l) = inl (longer b bs m r tokens e l)
by_rest b bs m r tokens e (inr n) = by_empty (b ∷ bs) m (r.0 ++ tokens) last none (end_or_not m) where
  last : r.0 ++ tokens ≡ last_token m
  last = ap (λ ts. r.0 ++ ts) n.empty ∙ append-nil r.0
      ∙ comment_begins m (kind b) b r e (sym (at_end r.1) ∙ n.none [] bs refl)

  none : (x : ℕ) (xs behind : List ℕ) → b ∷ bs ≡ (x ∷ xs) ++ behind → whole (read (x ∷ xs) m) ≡ None
  none x xs behind same =
      let parts = same_first b x bs (xs ++ behind) same in
      ap (λ y. whole (read (y ∷ xs) m)) parts.0 ∙ read_some b xs m r e
      ∙ ap (option_map (λ ts. r.0 ++ ts)) (n.none xs behind parts.1)

by_step : (b : ℕ) (bs : List ℕ) (m : Mode) (r : Option Read) → step m (kind b) b ≡ r
    → ((n : Mode) → Fronts bs n (before bs n)) → Fronts (b ∷ bs) m (go_on (before bs) m r)
by_step b bs m None e f = by_empty (b ∷ bs) m (last_token m) refl none (end_or_not m) where
  none : (x : ℕ) (xs behind : List ℕ) → b ∷ bs ≡ (x ∷ xs) ++ behind → whole (read (x ∷ xs) m) ≡ None
  none x xs behind same = ap (λ y. whole (read (y ∷ xs) m)) (same_first b x bs (xs ++ behind) same).0
      ∙ read_none b xs m e
by_step b bs m (Some r) e f = by_rest b bs m r (before bs r.1) e (f r.1)

fronts : (text : List ℕ) (m : Mode) → Fronts text m (before text m)
unfolding before
fronts [] m = by_empty [] m (last_token m) refl (λ x xs behind same. absurd (cc)) (end_or_not m)
fronts (b ∷ bs) m = by_step b bs m (step m (kind b) b) refl (fronts bs)

nothing_read : whole (read [] between) ≡ Some []
unfolding read
nothing_read = refl

from_start : (text : List ℕ) (tokens : List Token) → Fronts text between tokens → IsLongestFront text tokens
from_start text tokens (inl l) =
    record { front = l.front; rest = l.rest; splits = l.splits; has = l.has; longest = l.longest }
from_start text tokens (inr n) = none_some (Some []) (sym nothing_read ∙ n.none [] text refl) refl

pub before_longest : (text : List ℕ) → IsLongestFront text (tokens_before text)
before_longest text = from_start text (tokens_before text) (fronts text between)
