-- The numbers of the patterns of entries, by their lines.
use Rattle.std.proofs.Common.{◌≡◌, ℕ, zero, suc, ◌+◌, ◌<◌, ◌≤◌, List, [], ◌∷◌, ◌++◌, refl, ap, ◌∙◌, sym, arith}
use Rattle.std.specs.List.{All}
use Rattle.std.proofs.lemmas.List.{append-nil}
use Rattle.std.proofs.lemmas.List.Elements.{All-nil, All-cons}
use Rattle.dt_scope.specs.declared.kind.Kind.TheVariants.{Brace, Bracket}
use Rattle.dt_scope.specs.Marks.{Mark, opens, closes, pattern_mark, spelled, spelled_item}
use Rattle.dt_model.specs.Trees.{Item, one, overlap, exclusive, cluster, Items, no_item, item, numbers_in, numbers_of, numbers_from}

-- the numbers of these lines that are patterns
abbrev pub marked : List Mark → List ℕ
marked [] = []
marked (opens kind file line ∷ ms) = marked ms
marked (closes kind ∷ ms) = marked ms
marked (pattern_mark n ∷ ms) = n ∷ marked ms

pub marked_both : (ms ns : List Mark) → marked (ms ++ ns) ≡ marked ms ++ marked ns
marked_both [] ns = refl
marked_both (opens kind file line ∷ ms) ns = marked_both ms ns
marked_both (closes kind ∷ ms) ns = marked_both ms ns
marked_both (pattern_mark n ∷ ms) ns = ap (λ xs. n ∷ xs) (marked_both ms ns)

mutual
  of_item : (i : Item) → marked (spelled_item i) ≡ numbers_in i
  of_item (one n) = refl
  of_item (overlap (cluster file line is)) =
      marked_both (spelled is) (closes Brace ∷ []) ∙ append-nil (marked (spelled is)) ∙ numbers_marked is
  of_item (exclusive (cluster file line is)) =
      marked_both (spelled is) (closes Bracket ∷ []) ∙ append-nil (marked (spelled is)) ∙ numbers_marked is

  pub numbers_marked : (is : Items) → marked (spelled is) ≡ numbers_of is
  numbers_marked no_item = refl
  numbers_marked (item i is) =
      marked_both (spelled_item i) (spelled is) ∙ ap (λ xs. xs ++ marked (spelled is)) (of_item i)
      ∙ ap (λ xs. numbers_in i ++ xs) (numbers_marked is)

pub numbers_push : (start n : ℕ) → numbers_from start (n + 1) ≡ numbers_from start n ++ (start + n) ∷ []
numbers_push start zero = ap (λ m. m ∷ []) (let e : start ≡ start + 0 = omega arith in e)
numbers_push start (suc n) =
    ap (numbers_from start) (let e : suc n + 1 ≡ suc (n + 1) = omega arith in e)
    ∙ ap (λ ns. start ∷ ns) (numbers_push (start + 1) n
    ∙ ap (λ m. numbers_from (start + 1) n ++ m ∷ []) (let e : start + 1 + n ≡ start + suc n = omega arith in e))

-- one pattern more
pub one_marked : (ms : List Mark) (count : ℕ) → marked ms ≡ numbers_from 0 count
    → marked (ms ++ pattern_mark count ∷ []) ≡ numbers_from 0 (count + 1)
one_marked ms count h =
    marked_both ms (pattern_mark count ∷ []) ∙ ap (λ ns. ns ++ count ∷ []) h
    ∙ ap (λ n. numbers_from 0 count ++ n ∷ []) (let e : count ≡ 0 + count = omega arith in e)
    ∙ sym (numbers_push 0 count)

pub numbers_below : (n m bound : ℕ) → n + m ≤ bound → All (λ k. k < bound) (numbers_from n m)
numbers_below n zero bound h = All-nil (λ k. k < bound)
numbers_below n (suc m) bound h = All-cons (λ k. k < bound) n (numbers_from (n + 1) m) (omega arith)
    (numbers_below (n + 1) m bound (omega arith))
