-- The positions of entries, by their lines.
use Rattle.std.proofs.Common.{◌≡◌, ◌<◌, List, [], ◌∷◌, ◌++◌, length, map, get_or, refl, ap, ap₂, ◌∙◌, sym, subst}
use Rattle.std.specs.List.{All}
use Rattle.std.proofs.lemmas.List.{append-nil, get_or_append_left, get_or_push, length-map, map_push}
use Rattle.std.proofs.lemmas.List.Elements.{All-head, All-tail}
use Rattle.dt_lines.specs.declared.line.Position.{Position}
use Rattle.dt_model.specs.declared.pattern.Pattern.{Pattern}
use Rattle.dt_scope.specs.declared.kind.Kind.TheVariants.{Brace, Bracket}
use Rattle.dt_scope.specs.Marks.{Mark, opens, closes, pattern_mark, spelled, spelled_item}
use Rattle.dt_model.specs.Trees.{Item, one, overlap, exclusive, cluster, Items, no_item, item}
use Rattle.dt_model.specs.Sound.{item_positions, pattern_position, positions_of}
use Rattle.dt_forms.proofs.EntryNumbers.{marked}

abbrev origin : Position
origin = record { file = 0; line = 0 }

-- the positions of the lines that open groups or are patterns, where the patterns have these
abbrev pub marked_at : List Position → List Mark → List Position
marked_at ps [] = []
marked_at ps (opens kind file line ∷ ms) = record { file = file; line = line } ∷ marked_at ps ms
marked_at ps (closes kind ∷ ms) = marked_at ps ms
marked_at ps (pattern_mark n ∷ ms) = get_or ps n origin ∷ marked_at ps ms

pub at_both : (ps : List Position) (ms ns : List Mark) → marked_at ps (ms ++ ns) ≡ marked_at ps ms ++ marked_at ps ns
at_both ps [] ns = refl
at_both ps (opens kind file line ∷ ms) ns = ap (λ xs. record { file = file; line = line } ∷ xs) (at_both ps ms ns)
at_both ps (closes kind ∷ ms) ns = at_both ps ms ns
at_both ps (pattern_mark n ∷ ms) ns = ap (λ xs. get_or ps n origin ∷ xs) (at_both ps ms ns)

abbrev pub places : List Pattern → List Position
places patterns = map pattern_position patterns

mutual
  of_item : (patterns : List Pattern) (i : Item)
      → marked_at (places patterns) (spelled_item i) ≡ item_positions patterns i
  of_item patterns (one n) = refl
  of_item patterns (overlap (cluster file line is)) =
      ap (λ xs. record { file = file; line = line } ∷ xs) (at_both (places patterns) (spelled is) (closes Brace ∷ [])
      ∙ append-nil (marked_at (places patterns) (spelled is)) ∙ positions_marked patterns is)
  of_item patterns (exclusive (cluster file line is)) =
      ap (λ xs. record { file = file; line = line } ∷ xs) (at_both (places patterns) (spelled is) (closes Bracket ∷ [])
      ∙ append-nil (marked_at (places patterns) (spelled is)) ∙ positions_marked patterns is)

  pub positions_marked : (patterns : List Pattern) (is : Items)
      → marked_at (places patterns) (spelled is) ≡ positions_of patterns is
  positions_marked patterns no_item = refl
  positions_marked patterns (item i is) =
      at_both (places patterns) (spelled_item i) (spelled is)
      ∙ ap (λ xs. xs ++ marked_at (places patterns) (spelled is)) (of_item patterns i)
      ∙ ap (λ xs. item_positions patterns i ++ xs) (positions_marked patterns is)

-- patterns behind those of these lines change no position
kept : (ps more : List Position) (ms : List Mark) → All (λ n. n < length ps) (marked ms)
    → marked_at (ps ++ more) ms ≡ marked_at ps ms
kept ps more [] h = refl
kept ps more (opens kind file line ∷ ms) h = ap (λ xs. record { file = file; line = line } ∷ xs) (kept ps more ms h)
kept ps more (closes kind ∷ ms) h = kept ps more ms h
kept ps more (pattern_mark n ∷ ms) h =
    ap₂ (λ x xs. x ∷ xs) (get_or_append_left ps more origin n (All-head (λ n. n < length ps) n (marked ms) h))
    (kept ps more ms (All-tail (λ n. n < length ps) n (marked ms) h))

-- one pattern more
pub one_at : (patterns : List Pattern) (p : Pattern) (ms : List Mark) → All (λ n. n < length patterns) (marked ms)
    → marked_at (places (patterns ++ p ∷ [])) (ms ++ pattern_mark (length patterns) ∷ [])
    ≡ marked_at (places patterns) ms ++ pattern_position p ∷ []
one_at patterns p ms h =
    let ps : List Position = places patterns in
    let long : length ps ≡ length patterns = length-map patterns pattern_position in
    ap (λ qs. marked_at qs (ms ++ pattern_mark (length patterns) ∷ [])) (map_push pattern_position patterns p)
    ∙ at_both (ps ++ pattern_position p ∷ []) ms (pattern_mark (length patterns) ∷ [])
    ∙ ap₂ (λ xs x. xs ++ x ∷ []) (kept ps (pattern_position p ∷ []) ms
    (subst (λ m. All (λ n. n < m) (marked ms)) (sym long) h))
    (get_or_push ps (pattern_position p) origin (length patterns) long)
