-- Each text has exactly one reading.
use Rattle.std.proofs.Common.{◌≡◌, ℕ, ◌<◌, ◌≤◌, List, [], ◌∷◌, ◌++◌, length, map, Option, Some, None, refl, ap, subst}
use Rattle.std.proofs.Common.{arith, lt_of_not-le}
use Rattle.std.proofs.Math.Decide.{map_dec, dec_le, ℕ_discrete}
use Rattle.std.specs.Prelude.{nat_eq}
use Rattle.std.specs.List.{All}
use Rattle.std.specs.Cmp.{unsigned_Decides}
use Rattle.std.specs.Cmp.Lexicographic.{pointwise, nat_list_eq_equiv}
use Rattle.std.specs.Bool.{Decides}
use Rattle.std.specs.Set.{distinct_count}
use Rattle.std.proofs.lemmas.List.Elements.{All-nil, All-cons, All-head, All-tail}
use Rattle.std.proofs.lemmas.Slice.Eq.{slice_eq-Decides}
use Rattle.std.proofs.lemmas.Map.Made.{AllPairs-from_IsDistinct, IsDistinct-from_AllPairs, IsDistinct-from_count}
use Rattle.std.proofs.lemmas.Map.Made.{distinct_count-from_IsDistinct}
use Rattle.dt_values.specs.declared.set.SetDef.{SetDef}
use Rattle.dt_values.specs.declared.set.TheConstants.{MOST_ARGUMENTS}
use Rattle.c_tokens.specs.Before.{tokens_before}
use Rattle.c_tokens.specs.Depth.{most_open, open_after, open_behind, IsDeep, IsTooDeep}
use Rattle.c_tokens.specs.Tokens.{Token, tokens_of}
use Rattle.c_tokens.proofs.Deep.{nothing_deep, deep_here}
use Rattle.c_subset.specs.Distinct.{HasDistinctArguments, HasDistinctNames}
use Rattle.c_subset.specs.Keeps.{AllDiffer}
use Rattle.c_subset.specs.Programs.{Name, Program}
use Rattle.c_subset.specs.ProgramParsing.{program_at, read_whole}
use Rattle.c_subset.specs.Readings.{Reading, too_deep, not_subset, of_program, IsReading}
use Rattle.c_subset.proofs.ProgramsRead.{spelled_once, read_spells, no_tokens, none_read, same_names}

pub one_reading : (text : List ℕ) (a b : Reading) → IsReading text a → IsReading text b → a ≡ b
one_reading text too_deep too_deep h k = refl
one_reading text too_deep not_subset h k = absurd (k.0 h)
one_reading text too_deep (of_program q) h k = absurd (k.0 h)
one_reading text not_subset too_deep h k = absurd (h.0 k)
one_reading text not_subset not_subset h k = refl
one_reading text not_subset (of_program q) h k = absurd (h.1 q k.1)
one_reading text (of_program p) too_deep h k = absurd (h.0 k)
one_reading text (of_program p) not_subset h k = absurd (k.1 p h.1)
one_reading text (of_program p) (of_program q) h k = ap of_program (spelled_once text p q h.1 k.1)

-- ---- whether tokens are too deep
same_first : (t x : Token) (ts us : List Token) → t ∷ ts ≡ x ∷ us → (x ≡ t) × (ts ≡ us)
same_first t x ts us e = ((cc), (cc))

behind_first : (n : ℕ) (t x : Token) (ts front rest : List Token) → n ≤ most_open → t ∷ ts ≡ front ++ (x ∷ rest)
    → most_open < open_behind n front → IsDeep (open_after n t) ts
behind_first n t x ts [] rest h e inside = absurd (omega (arith, inside, h))
behind_first n t x ts (y ∷ front) rest h e inside =
    let same = same_first t y ts (front ++ (x ∷ rest)) e in
    record {
      front = front;
      token = x;
      rest = rest;
      splits = same.1;
      inside = subst (λ (z : Token). most_open < open_behind (open_after n z) front) same.0 inside;
    }

-- with few enough braces open, as behind the first token, and else at once
deep_from : (n : ℕ) (t : Token) (ts : List Token) → Dec (IsDeep (open_after n t) ts) → Dec (n ≤ most_open)
    → Dec (IsDeep n (t ∷ ts))
deep_from n t ts behind (yes few) = map_dec
    (λ d. record {
      front = t ∷ d.front;
      token = d.token;
      rest = d.rest;
      splits = ap (λ l. t ∷ l) d.splits;
      inside = d.inside;
    })
    (λ d. behind_first n t d.token ts d.front d.rest few d.splits d.inside) behind
deep_from n t ts behind (no many) = yes (deep_here n t ts (lt_of_not-le many))

deep_or_not : (n : ℕ) (tokens : List Token) → Dec (IsDeep n tokens)
deep_or_not n [] = no (nothing_deep n)
deep_or_not n (t ∷ ts) = deep_from n t ts (deep_or_not (open_after n t) ts) (dec_le n most_open)

-- ---- whether names differ
both : {P Q : Type 0} → Dec P → Dec Q → Dec (P × Q)
both (yes p) (yes q) = yes (p, q)
both (yes p) (no n) = no (λ h. n h.1)
both (no n) q = no (λ h. n h.0)

each : {X : Type 0} (P : X → Type 0) → ((x : X) → Dec (P x)) → (xs : List X) → Dec (All P xs)
each P one [] = yes (All-nil P)
each P one (x ∷ xs) =
    map_dec (λ h. All-cons P x xs h.0 h.1) (λ h. (All-head P x xs h, All-tail P x xs h))
    (both (one x) (each P one xs))

same_name : (v w : Name) → Decides (pointwise nat_eq v w) (v ≡ w)
same_name v w = slice_eq-Decides unsigned_Decides v w (pointwise nat_eq v w) refl

-- all do where as many names are distinct as there are
differ_or_not : (names : List Name) → Dec (AllDiffer names)
differ_or_not names =
    map_dec (λ e. AllPairs-from_IsDistinct same_name names (IsDistinct-from_count nat_list_eq_equiv names e))
    (λ h. distinct_count-from_IsDistinct nat_list_eq_equiv names (IsDistinct-from_AllPairs same_name names h))
    (ℕ_discrete (distinct_count (pointwise nat_eq) names) (length names))

distinct_arguments : (s : SetDef) → Dec (HasDistinctArguments s)
distinct_arguments s =
    map_dec (λ h. record { few = h.0; arguments_differ = h.1 }) (λ h. (h.few, h.arguments_differ))
    (both (dec_le (length s.members) MOST_ARGUMENTS) (differ_or_not (map (λ m. m.name) s.members)))

distinct_or_not : (p : Program) → Dec (HasDistinctNames p)
distinct_or_not p =
    map_dec
    (λ h. record {
      sets_distinct = h.0;
      sets_differ = h.1.0;
      patterns_differ = h.1.1.0;
      formats_differ = h.1.1.1.0;
      union_sets_differ = h.1.1.1.1;
    })
    (λ h. (h.sets_distinct, (h.sets_differ, (h.patterns_differ, (h.formats_differ, h.union_sets_differ)))))
    (both (each HasDistinctArguments distinct_arguments p.sets)
    (both (differ_or_not (map (λ s. s.name) p.sets))
    (both (differ_or_not (map (λ q. q.name) p.patterns))
    (both (differ_or_not (map (λ e. e.format) p.extracts))
    (differ_or_not p.union_sets)))))

-- ---- what a text is, as the reader finds it
module _ (text : List ℕ) (flat : ¬ IsTooDeep (tokens_before text)) where
  by_names : (tokens : List Token) (p : Program) → tokens_of text ≡ Some tokens
      → read_whole (program_at 127) tokens ≡ Some p → Dec (HasDistinctNames p) → (r : Reading) × IsReading text r
  by_names tokens p has read (yes distinct) = (of_program p, (flat, read_spells text tokens p has read distinct))
  by_names tokens p has read (no same) = (not_subset, (flat, same_names text tokens p has flat read same))

  by_program : (tokens : List Token) (found : Option Program) → tokens_of text ≡ Some tokens
      → read_whole (program_at 127) tokens ≡ found → (r : Reading) × IsReading text r
  by_program tokens None has read = (not_subset, (flat, none_read text tokens has flat read))
  by_program tokens (Some p) has read = by_names tokens p has read (distinct_or_not p)

  by_tokens : (found : Option (List Token)) → tokens_of text ≡ found → (r : Reading) × IsReading text r
  by_tokens None none = (not_subset, (flat, no_tokens text none))
  by_tokens (Some tokens) has = by_program tokens (read_whole (program_at 127) tokens) has refl

by_depth : (text : List ℕ) → Dec (IsTooDeep (tokens_before text)) → (r : Reading) × IsReading text r
by_depth text (yes deep) = (too_deep, deep)
by_depth text (no flat) = by_tokens text flat (tokens_of text) refl

pub some_reading : (text : List ℕ) → (r : Reading) × IsReading text r
some_reading text = by_depth text (deep_or_not 0 (tokens_before text))
