-- The program of sound parts keeps the rules of the C subset.
use Rattle.std.proofs.Common.{◌≡◌, ◌≢◌, ℕ, ◌<◌, ◌^◌, ◌==◌, List, [], ◌∷◌, Bool, true, false, not, refl, sym, arith, map}
use Rattle.std.proofs.Common.{filter, subst}
use Rattle.std.specs.Prelude.{◌↔◌, nat_eq, IsSome, IfSome, length, get_or}
use Rattle.std.specs.List.{All, AllPairs}
use Rattle.std.specs.Cmp.Lexicographic.{pointwise, nat_list_eq_equiv}
use Rattle.std.proofs.lemmas.List.Elements.{All-head, All-tail, All-weaker, filter_passes}
use Rattle.std.proofs.lemmas.List.Elements.{All-map, All-filter, All-cons}
use Rattle.std.proofs.lemmas.List.Kept.{AllPairs-cons, AllPairs-filter}
use Rattle.std.proofs.lemmas.List.{get_or-map, length-map}
use Rattle.dt_values.specs.Names.{IsName}
use Rattle.dt_values.specs.Widths.{width_bits}
use Rattle.dt_values.specs.declared.set.SetDef.{SetDef}
use Rattle.c_exprs.specs.Exprs.{Assignment}
use Rattle.c_subset.specs.Programs.{Name, Prefix, Pattern, Extraction, Stmts, done}
use Rattle.c_subset.specs.Keeps.{PatternNamed, ExtractionKeeps}
use Rattle.c_subset.specs.Keeps.{StmtsKeep, StmtsHaveCases, StmtsBelow, HaveNoCall, AllDiffer, KeepsRules}
use Rattle.c_eval.specs.Meaning.{helper_bits}
use Rattle.c_writer.specs.Parts.{NamedPattern, Parts, own_assignments}
use Rattle.c_writer.specs.Prototypes.{has_other_name, first_of_each_name, prototype_of, prototypes}
use Rattle.c_writer.specs.Chain.{assigns_then, body_then, test_then, chain, prefix_where_patterns, chain_program}
use Rattle.c_writer.specs.Sound.{IsSoundIn, AreSound, OwnKeeps}
use Rattle.c_writer.specs.Uses.{is_set_used, is_format_used, used_sets, used_extractions}

-- the first patterns of names are sound as all are
pub firsts_have : (P : NamedPattern → Type 0) (qs : List NamedPattern) → All P qs → All P (first_of_each_name qs)
firsts_have P [] h = h
firsts_have P (q ∷ qs) h = All-cons P q _ (All-head P q qs h)
    (All-filter (has_other_name q) P (first_of_each_name qs) (firsts_have P qs (All-tail P q qs h)))

pub prototypes_named : (p : Parts) → AreSound p → All PatternNamed (prototypes p.patterns)
prototypes_named p s =
    All-map PatternNamed prototype_of (first_of_each_name p.patterns)
    (All-weaker (IsSoundIn p) (λ q. PatternNamed (prototype_of q))
    (λ q h. record { name = h.pattern.named; set = h.set_named }) _
    (firsts_have (IsSoundIn p) p.patterns s.patterns_sound))

pub used_sets_named : (p : Parts) → AreSound p → All IsName (used_sets p)
used_sets_named p s = All-filter (is_set_used p.patterns) IsName _
    (All-map IsName (λ (d : SetDef). d.name) p.sets s.sets_named)

pub used_extractions_keep : (p : Parts) → AreSound p → All ExtractionKeeps (used_extractions p)
used_extractions_keep p s = All-filter
    (λ e. is_format_used p.patterns e.format) ExtractionKeeps p.extractions s.extractions_keep

-- patterns of other names
abbrev HaveOtherNames : NamedPattern → NamedPattern → Type 0
HaveOtherNames q r = q.trial.flat.name ≢ r.trial.flat.name

other_name : (q r : NamedPattern) → has_other_name q r ≡ true → HaveOtherNames q r
other_name q r h e =
    let same : pointwise nat_eq r.trial.flat.name q.trial.flat.name ≡ true =
    subst (λ n. pointwise nat_eq n q.trial.flat.name ≡ true) e (nat_list_eq_equiv.refl q.trial.flat.name) in cc

firsts_differ : (qs : List NamedPattern) → AllPairs HaveOtherNames (first_of_each_name qs)
firsts_differ [] = λ i j d below within. absurd (omega arith)
firsts_differ (q ∷ qs) =
    AllPairs-cons HaveOtherNames q _
    (All-weaker _ (HaveOtherNames q) (other_name q) _ (filter_passes (has_other_name q) (first_of_each_name qs)))
    (AllPairs-filter HaveOtherNames (has_other_name q) (first_of_each_name qs) (firsts_differ qs))

pub pairs_map : {X Y : Type 0} (R : Y → Y → Type 0) (f : X → Y) (e : X) (xs : List X)
    → AllPairs (λ x y. R (f x) (f y)) xs → AllPairs R (map f xs)
pairs_map R f e xs h = λ i j d below within.
    let last : j < length xs = subst (λ n. j < n) (length-map xs f) within in
    let first : i < length xs = omega arith in
    subst (λ y. R y (get_or (map f xs) j d)) (sym (get_or-map f xs i e d first))
    (subst (λ y. R (f (get_or xs i e)) y) (sym (get_or-map f xs j e d last)) (h i j e below last))

unnamed : NamedPattern
unnamed = record {
  trial = record {
    flat = record { name = []; file = 0; line = 0; bits = 0; fixed_mask = 0; fixed_bits = 0 };
    members = [];
    values = [];
  };
  format = [];
  set = [];
  extracted = [];
  own = [];
}

names_differ : (qs : List NamedPattern) → AllPairs HaveOtherNames qs
    → AllDiffer (map (λ d. d.name) (map prototype_of qs))
names_differ qs h =
    pairs_map (λ x y. x ≢ y) (λ (d : Pattern). d.name) (prototype_of unnamed) (map prototype_of qs)
    (pairs_map (λ (d e : Pattern). d.name ≢ e.name) prototype_of unnamed qs h)

prefix_there : (qs : List NamedPattern) (prefix : Prefix)
    → IsSome (prefix_where_patterns qs prefix) ↔ (prototypes qs ≢ [])
prefix_there [] prefix = ((λ some. cc), (λ none. absurd (none refl)))
prefix_there (q ∷ qs) prefix = ((λ some. λ none. cc), (λ some. refl))

prefix_has_name : (qs : List NamedPattern) (prefix : Prefix) → IsName prefix.name
    → IfSome (prefix_where_patterns qs prefix) (λ p. IsName p.name)
prefix_has_name [] prefix h = tt
prefix_has_name (q ∷ qs) prefix h = h

none_used : (names : List Name) → filter (is_set_used []) names ≡ []
none_used [] = refl
none_used (n ∷ names) = none_used names

union_empty : (qs : List NamedPattern) (names : List Name) → prototypes qs ≡ [] → filter (is_set_used qs) names ≡ []
union_empty [] names h = none_used names
union_empty (q ∷ qs) names h = absurd (cc)

-- those of a list that pass a test differ as all do
passing_differ : {X : Type 0} (f : X → Name) (e : X) (test : X → Bool) (xs : List X) → AllPairs (λ x y. f x ≢ f y) xs
    → AllDiffer (map f (filter test xs))
passing_differ f e test xs h = pairs_map (λ x y. x ≢ y) f e (filter test xs)
    (AllPairs-filter (λ x y. f x ≢ f y) test xs h)

no_set : SetDef
no_set = record { name = []; members = []; outside = false }

no_extraction : Extraction
no_extraction = record { format = []; set = []; assigns = [] }

-- ---- assignments of the decoder
assigns_keep : (set : Name) (assigns : List Assignment) (rest : Stmts) → IsName set → All OwnKeeps assigns
    → StmtsKeep rest → StmtsKeep (assigns_then set assigns rest)
assigns_keep set [] rest named h r = r
assigns_keep set (a ∷ more) rest named h r =
    let k = All-head OwnKeeps a more h in
    ((named, k.argument, k.value, k.place), assigns_keep set more rest named (All-tail OwnKeeps a more h) r)

assigns_below : (limit : ℕ) (set : Name) (assigns : List Assignment) (rest : Stmts) → StmtsBelow limit rest
    → StmtsBelow limit (assigns_then set assigns rest)
assigns_below limit set [] rest r = r
assigns_below limit set (a ∷ more) rest r = (tt, assigns_below limit set more rest r)

-- ---- the statements
body_keeps : (p : Parts) (q : NamedPattern) (rest : Stmts) → IsSoundIn p q → StmtsKeep rest
    → StmtsKeep (body_then (helper_bits p.width) q rest)
body_keeps p q rest h r = (
  (h.format_named, h.set_named),
  assigns_keep q.set
      (own_assignments (helper_bits p.width) q) _ h.set_named h.own ((h.pattern.named, h.set_named), r),
)

test_keeps : (p : Parts) (b : Bool) (q : NamedPattern) (rest : Stmts) → IsSoundIn p q → StmtsKeep rest
    → StmtsKeep (test_then b (helper_bits p.width) q rest)
test_keeps p true q rest h r = body_keeps p q rest h r
test_keeps p false q rest h r = (body_keeps p q done h tt, r)

chain_keeps : (p : Parts) (qs : List NamedPattern) → All (IsSoundIn p) qs → StmtsKeep (chain (helper_bits p.width) qs)
chain_keeps p [] h = tt
chain_keeps p (q ∷ qs) h = test_keeps p (q.trial.flat.fixed_mask == 0) q _ (All-head (IsSoundIn p) q qs h)
    (chain_keeps p qs (All-tail (IsSoundIn p) q qs h))

body_below : (limit : ℕ) (n : ℕ) (q : NamedPattern) (rest : Stmts) → StmtsBelow limit rest
    → StmtsBelow limit (body_then n q rest)
body_below limit n q rest r = (tt, assigns_below limit q.set (own_assignments n q) _ (tt, r))

test_below : (p : Parts) (n : ℕ) (b : Bool) (q : NamedPattern) (rest : Stmts) → IsSoundIn p q
    → StmtsBelow (2 ^ width_bits p.width) rest → StmtsBelow (2 ^ width_bits p.width) (test_then b n q rest)
test_below p n true q rest h r = body_below (2 ^ width_bits p.width) n q rest r
test_below p n false q rest h r =
    ((h.pattern.mask_below, h.pattern.bits_below, body_below (2 ^ width_bits p.width) n q done tt), r)

chain_below : (p : Parts) (n : ℕ) (qs : List NamedPattern) → All (IsSoundIn p) qs
    → StmtsBelow (2 ^ width_bits p.width) (chain n qs)
chain_below p n [] h = tt
chain_below p n (q ∷ qs) h = test_below p n (q.trial.flat.fixed_mask == 0) q _ (All-head (IsSoundIn p) q qs h)
    (chain_below p n qs (All-tail (IsSoundIn p) q qs h))

-- no switch stands among them
assigns_cases : (set : Name) (assigns : List Assignment) (rest : Stmts) → StmtsHaveCases rest
    → StmtsHaveCases (assigns_then set assigns rest)
assigns_cases set [] rest r = r
assigns_cases set (a ∷ more) rest r = (tt, assigns_cases set more rest r)

body_cases : (n : ℕ) (q : NamedPattern) (rest : Stmts) → StmtsHaveCases rest → StmtsHaveCases (body_then n q rest)
body_cases n q rest r = (tt, assigns_cases q.set (own_assignments n q) _ (tt, r))

test_cases : (n : ℕ) (b : Bool) (q : NamedPattern) (rest : Stmts) → StmtsHaveCases rest
    → StmtsHaveCases (test_then b n q rest)
test_cases n true q rest r = body_cases n q rest r
test_cases n false q rest r = (body_cases n q done tt, r)

chain_cases : (n : ℕ) (qs : List NamedPattern) → StmtsHaveCases (chain n qs)
chain_cases n [] = tt
chain_cases n (q ∷ qs) = test_cases n (q.trial.flat.fixed_mask == 0) q _ (chain_cases n qs)

no_calls : (n : ℕ) (qs : List NamedPattern) → prototypes qs ≡ [] → HaveNoCall (chain n qs)
no_calls n [] h = tt
no_calls n (q ∷ qs) h = absurd (cc)

pub keeps_rules : (p : Parts) → AreSound p → KeepsRules (chain_program p)
keeps_rules p s = record {
  sets_keep = s.sets_keep;
  sets_differ = passing_differ (λ (d : SetDef). d.name) no_set (λ d. not d.outside) p.sets s.sets_differ;
  prefix_with_patterns = prefix_there p.patterns p.prefix;
  prefix_named = prefix_has_name p.patterns p.prefix s.prefix_named;
  patterns_named = prototypes_named p s;
  patterns_differ = names_differ (first_of_each_name p.patterns) (firsts_differ p.patterns);
  extracts_keep = used_extractions_keep p s;
  formats_differ = passing_differ (λ (e : Extraction). e.format) no_extraction
      (λ e. is_format_used p.patterns e.format) p.extractions s.formats_differ;
  decoder_named = s.decoder_named;
  union_sets_named = used_sets_named p s;
  union_sets_differ =
      AllPairs-filter (λ x y. x ≢ y) (is_set_used p.patterns) _
      (pairs_map (λ x y. x ≢ y) (λ (d : SetDef). d.name) no_set p.sets s.sets_differ);
  union_with_patterns = union_empty p.patterns (map (λ d. d.name) p.sets);
  body_keeps = chain_keeps p p.patterns s.patterns_sound;
  body_cases = chain_cases (helper_bits p.width) p.patterns;
  body_below = chain_below p (helper_bits p.width) p.patterns s.patterns_sound;
  calls_with_patterns = no_calls (helper_bits p.width) p.patterns;
  load_fits = tt;
  load_below = tt;
  load_cases = tt;
}
