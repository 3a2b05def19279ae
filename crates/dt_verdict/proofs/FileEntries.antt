-- The entries of files stand in order: their positions are among those of the lines, which rise.
use Rattle.std.proofs.Common.{◌≡◌, ℕ, zero, suc, ◌⊎◌, List, [], ◌∷◌, ◌++◌, refl, ap, ◌∙◌, sym, subst, append_assoc, arith, inl, inr, ⊎_elim}
use Rattle.std.specs.Prelude.{Contains, AllPairs}
use Rattle.dt_lines.specs.declared.line.Position.{Position}
use Rattle.dt_model.specs.declared.pattern.Pattern.{Pattern}
use Rattle.dt_scope.specs.declared.kind.Kind.{Kind}
use Rattle.dt_scope.specs.declared.kind.Kind.TheVariants.{Brace, Bracket}
use Rattle.dt_model.specs.declared.options.Options.{Options}
use Rattle.dt_scope.specs.Marks.{Mark, opens, closes, pattern_mark, Reading, reading, opened, entries_of, grouped}
use Rattle.dt_model.specs.Trees.{Items}
use Rattle.dt_forms.specs.FileLines.{all_lines}
use Rattle.dt_forms.specs.Models.{definitions_of, entries_in_files, marks_in_files}
use Rattle.dt_model.specs.Sound.{IsEarlier, item_positions, positions_of}
use Rattle.dt_forms.proofs.EntryOrder.{entries_rise}
use Rattle.dt_forms.proofs.EntryPositions.{marked_at, places}
use Rattle.dt_forms.proofs.LineOrder.{all_rise}
use Rattle.dt_tree.specs.Entries.{place}
use Rattle.dt_tree.proofs.Order.{Pairs, contains_head, contains_tail, from_pairs, pairs_left, to_pairs}

-- the first list is the second without some of its members
abbrev IsLess : List Position → List Position → Type 0
IsLess xs [] = xs ≡ []
IsLess xs (y ∷ ys) = IsLess xs ys ⊎ ((rest : List Position) × (xs ≡ y ∷ rest) × IsLess rest ys)

none_less : (ys : List Position) → IsLess [] ys
none_less [] = refl
none_less (y ∷ ys) = inl (none_less ys)

head_or : (x p : Position) (xs : List Position) → Contains (x ∷ xs) p → (x ≡ p) ⊎ Contains xs p
head_or x p xs (zero, l, is) = inl is
head_or x p xs (suc k, l, is) = inr (k, omega arith, is)

less_member : (xs ys : List Position) (p : Position) → IsLess xs ys → Contains xs p → Contains ys p
less_member xs [] p less h = subst (λ (zs : List Position). Contains zs p) less h
less_member xs (y ∷ ys) p (inl less) h = contains_tail y p ys (less_member xs ys p less h)
less_member xs (y ∷ ys) p (inr (rest, e, less)) h =
    ⊎_elim
    (λ (is : y ≡ p). subst (λ (q : Position). Contains (y ∷ ys) q) is (contains_head y ys))
    (λ (k : Contains rest p). contains_tail y p ys (less_member rest ys p less k))
    (head_or y p rest (subst (λ (zs : List Position). Contains zs p) e h))

less_pairs : (xs ys : List Position) → IsLess xs ys → Pairs ys → Pairs xs
less_pairs xs [] less up = subst (λ (zs : List Position). Pairs zs) (sym less) tt
less_pairs xs (y ∷ ys) (inl less) up = less_pairs xs ys less up.1
less_pairs xs (y ∷ ys) (inr (rest, e, less)) up =
    let all : Pairs (y ∷ rest) = (λ p h. up.0 p (less_member rest ys p less h), less_pairs rest ys less up.1) in
    subst (λ (zs : List Position). Pairs zs) (sym e) all

abbrev behind_positions : List Pattern → List Items → List Position
behind_positions patterns [] = []
behind_positions patterns (is ∷ more) = positions_of patterns is ++ behind_positions patterns more

-- the positions of all that is read
abbrev read_positions : List Pattern → Reading → List Position
read_positions patterns r = positions_of patterns r.entries ++ behind_positions patterns r.behind

abbrev AreRead : List Pattern → List Mark → Type 0
AreRead patterns ms = IsLess (read_positions patterns (reading ms)) (marked_at (places patterns) ms)

grouped_positions : (patterns : List Pattern) (kind : Kind) (file line : ℕ) (is : Items)
    → item_positions patterns (grouped kind file line is) ≡ place file line ∷ positions_of patterns is
grouped_positions patterns Brace file line is = refl
grouped_positions patterns Bracket file line is = refl

opened_less : (patterns : List Pattern) (kind : Kind) (file line : ℕ) (ms : List Mark) (is : Items)
    (behind : List Items) → (reading ms).entries ≡ is → (reading ms).behind ≡ behind
    → AreRead patterns ms → AreRead patterns (opens kind file line ∷ ms)
opened_less patterns kind file line ms is [] e f less =
    subst (λ (r : Reading). IsLess (read_positions patterns r)
    (marked_at (places patterns) (opens kind file line ∷ ms)))
    (sym (ap (λ (b : List Items). opened kind file line (reading ms).entries b) f))
    (none_less (marked_at (places patterns) (opens kind file line ∷ ms)))
opened_less patterns kind file line ms is (outer ∷ behind) e f less = inr (
  positions_of patterns is ++ (positions_of patterns outer ++ behind_positions patterns behind),
  ap (λ (r : Reading). read_positions patterns r)
      (ap (λ (b : List Items). opened kind file line (reading ms).entries b) f
      ∙ ap (λ (js : Items). opened kind file line js (outer ∷ behind)) e)
      ∙ ap (λ ps. (ps ++ positions_of patterns outer) ++ behind_positions patterns behind)
      (grouped_positions patterns kind file line is)
      ∙ append_assoc (place file line ∷ positions_of patterns is) (positions_of patterns outer)
      (behind_positions patterns behind),
  subst (λ (js : Items). IsLess (positions_of patterns js
      ++ (positions_of patterns outer ++ behind_positions patterns behind)) (marked_at (places patterns) ms)) e
      (subst (λ (b : List Items). IsLess (positions_of patterns (reading ms).entries ++ behind_positions patterns b)
      (marked_at (places patterns) ms)) f less),
)

are_read : (patterns : List Pattern) (ms : List Mark) → AreRead patterns ms
are_read patterns [] = refl
are_read patterns (opens kind file line ∷ ms) =
    opened_less patterns kind file line ms (reading ms).entries (reading ms).behind refl refl (are_read patterns ms)
are_read patterns (closes kind ∷ ms) = are_read patterns ms
are_read patterns (pattern_mark n ∷ ms) = inr (read_positions patterns (reading ms), refl, are_read patterns ms)

read_in_order : (patterns : List Pattern) (ms : List Mark) → AllPairs IsEarlier (marked_at (places patterns) ms)
    → AllPairs IsEarlier (positions_of patterns (entries_of ms))
read_in_order patterns ms up =
    from_pairs (positions_of patterns (entries_of ms))
    (pairs_left (positions_of patterns (entries_of ms)) (behind_positions patterns (reading ms).behind)
    (less_pairs (read_positions patterns (reading ms)) (marked_at (places patterns) ms) (are_read patterns ms)
    (to_pairs (marked_at (places patterns) ms) up)))

pub files_in_order : (options : Options) (texts : List (List ℕ))
    → AllPairs IsEarlier (positions_of (definitions_of options texts).patterns (entries_in_files options texts))
files_in_order options texts = read_in_order (definitions_of options texts).patterns (marks_in_files options texts)
    (entries_rise options (all_lines texts) (all_rise texts))
