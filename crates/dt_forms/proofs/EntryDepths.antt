-- How deep groups nest, by their lines.
use Rattle.std.proofs.Common.{◌≡◌, ℕ, ◌+◌, ◌-◌, ◌<◌, ◌≤◌, List, [], ◌∷◌, ◌++◌, refl, ◌∙◌, sym, subst, append_assoc, arith}
use Rattle.std.proofs.lemmas.List.{append-nil}
use Rattle.dt_scope.specs.declared.kind.Kind.{Kind}
use Rattle.dt_scope.specs.declared.kind.Kind.TheVariants.{Brace, Bracket}
use Rattle.dt_scope.specs.Marks.{Mark, opens, closes, pattern_mark, spelled, spelled_item}
use Rattle.dt_model.specs.Trees.{Item, one, overlap, exclusive, cluster, Items, no_item, item, item_depth, depth}

-- no line opens a group inside 16 open ones, where so many are open at first
abbrev pub AreNested : ℕ → List Mark → Type 0
AreNested d [] = Unit {0}
AreNested d (opens kind file line ∷ ms) = (d < 16) × AreNested (d + 1) ms
AreNested d (closes kind ∷ ms) = AreNested (d - 1) ms
AreNested d (pattern_mark n ∷ ms) = AreNested d ms

-- how many are open after these lines
abbrev pub depth_after : ℕ → List Mark → ℕ
depth_after d [] = d
depth_after d (opens kind file line ∷ ms) = depth_after (d + 1) ms
depth_after d (closes kind ∷ ms) = depth_after (d - 1) ms
depth_after d (pattern_mark n ∷ ms) = depth_after d ms

-- lines behind others
pub nested_more : (d : ℕ) (ms ns : List Mark) → AreNested d ms → AreNested (depth_after d ms) ns
    → AreNested d (ms ++ ns)
nested_more d [] ns h k = k
nested_more d (opens kind file line ∷ ms) ns h k = (h.0, nested_more (d + 1) ms ns h.1 k)
nested_more d (closes kind ∷ ms) ns h k = nested_more (d - 1) ms ns h k
nested_more d (pattern_mark n ∷ ms) ns h k = nested_more d ms ns h k

pub depth_more : (d : ℕ) (ms ns : List Mark) → depth_after d (ms ++ ns) ≡ depth_after (depth_after d ms) ns
depth_more d [] ns = refl
depth_more d (opens kind file line ∷ ms) ns = depth_more (d + 1) ms ns
depth_more d (closes kind ∷ ms) ns = depth_more (d - 1) ms ns
depth_more d (pattern_mark n ∷ ms) ns = depth_more d ms ns

-- a group around entries
nested_group : (kind : Kind) (is : Items) (d : ℕ) (ms : List Mark) → d < 16
    → (AreNested (d + 1) (spelled is ++ closes kind ∷ ms)
    → (d + 1 + depth is ≤ 16) × AreNested (d + 1) (closes kind ∷ ms))
    → AreNested (d + 1) ((spelled is ++ closes kind ∷ []) ++ ms) → (d + (depth is + 1) ≤ 16) × AreNested d ms
nested_group kind is d ms lt inside h =
    let inner = inside (subst (AreNested (d + 1)) (append_assoc (spelled is) (closes kind ∷ []) ms) h) in
    let le : d + 1 + depth is ≤ 16 = inner.0 in
    (omega arith, subst (λ (n : ℕ). AreNested n ms) (let e : d + 1 - 1 ≡ d = omega arith in e) inner.1)

mutual
  nested_item : (i : Item) (d : ℕ) (ms : List Mark) → d ≤ 16 → AreNested d (spelled_item i ++ ms)
      → (d + item_depth i ≤ 16) × AreNested d ms
  nested_item (one n) d ms low h = (omega arith, h)
  nested_item (overlap (cluster file line is)) d ms low h =
      nested_group Brace is d ms h.0 (nested is (d + 1) (closes Brace ∷ ms) (let lt : d < 16 = h.0 in omega arith)) h.1
  nested_item (exclusive (cluster file line is)) d ms low h =
      nested_group Bracket is d ms h.0 (nested is (d + 1) (closes Bracket ∷ ms) (let lt : d < 16 = h.0 in omega arith))
      h.1

  nested : (is : Items) (d : ℕ) (ms : List Mark) → d ≤ 16 → AreNested d (spelled is ++ ms)
      → (d + depth is ≤ 16) × AreNested d ms
  nested no_item d ms low h = (omega arith, h)
  nested (item i is) d ms low h =
      let first = nested_item i d (spelled is ++ ms) low
      (subst (AreNested d) (append_assoc (spelled_item i) (spelled is) ms) h) in
      let rest = nested is d ms low first.1 in
      let a : d + item_depth i ≤ 16 = first.0 in
      let b : d + depth is ≤ 16 = rest.0 in
      (omega arith, rest.1)

pub at_most_16 : (is : Items) (ms : List Mark) → spelled is ≡ ms → AreNested 0 ms → depth is ≤ 16
at_most_16 is ms e h =
    let all = nested is 0 [] (omega arith) (subst (AreNested 0) (sym (append-nil (spelled is) ∙ e)) h) in
    let le : 0 + depth is ≤ 16 = all.0 in omega arith
