-- Where no group is empty, patterns are below each entry of each exclusive list.
use Rattle.std.proofs.Common.{◌≡◌, ℕ, zero, suc, ◌+◌, ◌<◌, List, [], ◌∷◌, ◌++◌, length, refl, ap, subst, arith, inl, inr}
use Rattle.std.specs.Prelude.{Contains, All}
use Rattle.std.proofs.lemmas.List.{length-append}
use Rattle.std.proofs.lemmas.List.Elements.{All-nil, All-cons, Contains-append_cases}
use Rattle.dt_lines.specs.declared.line.Position.{Position}
use Rattle.dt_model.specs.Trees.{Item, one, overlap, exclusive, cluster, Items, no_item, item, numbers_in, numbers_of}
use Rattle.dt_tree.specs.Entries.{exclusive_lists, list_of, lists_below, lists_in, place}
use Rattle.dt_tree.specs.EmptyGroups.{empty_groups, empty_in, own_empty}
use Rattle.dt_tree.specs.Commons.{IsFilled}
use Rattle.dt_tree.specs.Answers.{AreFilled}

no_cons : (x : Position) (xs : List Position) → x ∷ xs ≡ [] → ⊥
no_cons x xs h = let e : length (x ∷ xs) ≡ 0 = ap length h in omega arith

-- two lists without places
none_left : (xs ys : List Position) → xs ++ ys ≡ [] → xs ≡ []
none_left [] ys h = refl
none_left (x ∷ xs) ys h = absurd (let e : length (x ∷ (xs ++ ys)) ≡ 0 = ap length h in omega arith)

none_right : (xs ys : List Position) → xs ++ ys ≡ [] → ys ≡ []
none_right [] ys h = h
none_right (x ∷ xs) ys h = absurd (let e : length (x ∷ (xs ++ ys)) ≡ 0 = ap length h in omega arith)

more_numbers : (xs ys : List ℕ) → 0 < length xs → 0 < length (xs ++ ys)
more_numbers xs ys h = let e : length (xs ++ ys) ≡ length xs + length ys = length-append xs ys in omega arith

not_none : (file line : ℕ) (es : Items) → own_empty file line es ≡ [] → (es ≡ no_item → ⊥)
not_none file line no_item h e = no_cons (place file line) [] h
not_none file line (item i is) h e = subst T e tt
  where
    T : Items → Type 0
    T no_item = ⊥
    T (item j js) = Unit {0}

-- where no group is empty, patterns are below each entry
mutual
  filled_item : (i : Item) → empty_in i ≡ [] → IsFilled i
  filled_item (one n) h = omega arith
  filled_item (overlap (cluster file line is)) h =
      filled_some is (not_none file line is (none_left (own_empty file line is) (empty_groups is) h))
      (none_right (own_empty file line is) (empty_groups is) h)
  filled_item (exclusive (cluster file line is)) h =
      filled_some is (not_none file line is (none_left (own_empty file line is) (empty_groups is) h))
      (none_right (own_empty file line is) (empty_groups is) h)

  filled_some : (is : Items) → (is ≡ no_item → ⊥) → empty_groups is ≡ [] → 0 < length (numbers_of is)
  filled_some no_item some h = absurd (some refl)
  filled_some (item i is) some h = more_numbers (numbers_in i) (numbers_of is)
      (filled_item i (none_left (empty_in i) (empty_groups is) h))

all_filled : (is : Items) → empty_groups is ≡ [] → All IsFilled (list_of is)
all_filled no_item h = All-nil IsFilled
all_filled (item i is) h = All-cons IsFilled i (list_of is) (filled_item i (none_left (empty_in i) (empty_groups is) h))
    (all_filled is (none_right (empty_in i) (empty_groups is) h))

both_filled : (xs ys : List Items) → AreFilled xs → AreFilled ys → AreFilled (xs ++ ys)
both_filled xs ys p q = record {
  each = λ l h. elim (Contains-append_cases xs ys l h) [
    | inl a ↦ p.each l a
    | inr b ↦
        q.each l b
  ];
}

none_filled : AreFilled []
none_filled = record { each = λ l h. absurd (let lt : h.0 < 0 = h.1 in omega arith) }

one_filled : (is : Items) → empty_groups is ≡ [] → AreFilled (is ∷ [])
one_filled is none = record { each = λ l h. only l h }
  where
    only : (l : Items) → Contains (is ∷ []) l → All IsFilled (list_of l)
    only l (zero, lt, e) = subst (λ (x : Items). All IsFilled (list_of x)) e (all_filled is none)
    only l (suc k, lt, e) = absurd (omega arith)

mutual
  filled_in : (i : Item) → empty_in i ≡ [] → AreFilled (lists_in i)
  filled_in (one n) none = none_filled
  filled_in (overlap (cluster file line is)) none =
      filled_below is (none_right (own_empty file line is) (empty_groups is) none)
  filled_in (exclusive (cluster file line is)) none =
      both_filled (is ∷ []) (lists_below is)
      (one_filled is (none_right (own_empty file line is) (empty_groups is) none))
      (filled_below is (none_right (own_empty file line is) (empty_groups is) none))

  filled_below : (is : Items) → empty_groups is ≡ [] → AreFilled (lists_below is)
  filled_below no_item none = none_filled
  filled_below (item i is) none =
      both_filled (lists_in i) (lists_below is)
      (filled_in i (none_left (empty_in i) (empty_groups is) none))
      (filled_below is (none_right (empty_in i) (empty_groups is) none))

pub every_filled : (is : Items) → empty_groups is ≡ [] → AreFilled (exclusive_lists is)
every_filled is none = both_filled (is ∷ []) (lists_below is) (one_filled is none) (filled_below is none)
