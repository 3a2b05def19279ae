-- The programs of the example texts keep the rules.
use Rattle.std.proofs.Common.{◌≡◌, ◌≢◌, codes, Bool, true, false, not, ◌&&◌, List, [], ◌∷◌, refl, arith, lit<, lit≤}
use Rattle.std.specs.Prelude.{IsTrue, ℕ, ◌<◌, ◌^◌, Some, None, map}
use Rattle.std.specs.List.{All}
use Rattle.std.proofs.lemmas.List.Elements.{All-nil, All-cons}
use Rattle.std.proofs.lemmas.List.Kept.{AllPairs-cons}
use Rattle.dt_values.specs.Names.{IsName}
use Rattle.dt_values.specs.Widths.{width_bits}
use Rattle.dt_values.specs.declared.ctype.Member.{Member}
use Rattle.dt_values.specs.declared.width.Width.{Width}
use Rattle.dt_values.specs.declared.width.Width.TheVariants.{W32}
use Rattle.dt_values.specs.declared.set.SetDef.{SetDef}
use Rattle.c_exprs.specs.Exprs.{segment, argument}
use Rattle.c_exprs.specs.Forms.{AssignmentKeeps}
use Rattle.c_subset.specs.Programs.{Name, Stmts, done, Extraction, Program}
use Rattle.c_subset.specs.Keeps.{AllDiffer, IsTypeKept, SetKeeps, PatternNamed, ExtractionKeeps, KeepsRules, StmtsKeep}
use Rattle.c_subset.specs.Keeps.{StmtsHaveCases, StmtsBelow}
use Rattle.c_subset.proofs.Apart.{same_bytes, differ}
use Rattle.c_tokens.proofs.Bytes.{both_true}
use Rattle.c_subset.specs.Examples.{nop_program, empty_program, arguments_program, branch_program, assigned_program}
use Rattle.c_subset.specs.Examples.{in_extraction, in_decoder, placed_program}

-- names are told apart by computing
abbrev is_apart : Name → List Name → Bool
is_apart x [] = true
is_apart x (y ∷ ys) = not (same_bytes x y) && is_apart x ys

abbrev are_apart : List Name → Bool
are_apart [] = true
are_apart (x ∷ xs) = is_apart x xs && are_apart xs

not_true : (b : Bool) → IsTrue (not b) → b ≡ false
not_true true h = cc
not_true false h = refl

not_same : (x y : Name) → IsTrue (not (same_bytes x y)) → x ≢ y
not_same x y h = differ x y (not_true (same_bytes x y) h)

differs : (x : Name) (ys : List Name) → IsTrue (is_apart x ys) → All (λ y. x ≢ y) ys
differs x [] h = All-nil (λ y. x ≢ y)
differs x (y ∷ ys) h =
    let p = both_true (not (same_bytes x y)) (is_apart x ys) h in
    All-cons (λ z. x ≢ z) y ys (not_same x y p.0) (differs x ys p.1)

pub all_differ : (xs : List Name) → IsTrue (are_apart xs) → AllDiffer xs
all_differ [] h = λ i j d l k. absurd (omega (arith, k))
all_differ (x ∷ xs) h =
    let p = both_true (is_apart x xs) (are_apart xs) h in
    AllPairs-cons (λ v w. v ≢ w) x xs (differs x xs p.0) (all_differ xs p.1)

pub one : {X : Type 0} (P : X → Type 0) (x : X) → P x → All P (x ∷ [])
one P x h = All-cons P x [] h (All-nil P)

pub two : {X : Type 0} (P : X → Type 0) (x y : X) → P x → P y → All P (x ∷ y ∷ [])
two P x y h k = All-cons P x (y ∷ []) h (one P y k)

three : {X : Type 0} (P : X → Type 0) (x y z : X) → P x → P y → P z → All P (x ∷ y ∷ z ∷ [])
three P x y z h k l = All-cons P x (y ∷ z ∷ []) h (two P y z k l)

four : {X : Type 0} (P : X → Type 0) (x y z w : X) → P x → P y → P z → P w → All P (x ∷ y ∷ z ∷ w ∷ [])
four P x y z w h k l m = All-cons P x (y ∷ z ∷ w ∷ []) h (three P y z w k l m)

-- a program of these sets and no pattern
abbrev no_pattern : List SetDef → Program
no_pattern sets = record {
  width = W32;
  sets = sets;
  prefix = None;
  patterns = [];
  extracts = [];
  decoder = codes "decode";
  decoder_static = true;
  union_sets = [];
  body = done;
  load = None;
}

no_pattern_keeps : (sets : List SetDef) → All SetKeeps sets → AllDiffer (map (λ s. s.name) sets)
    → KeepsRules (no_pattern sets)
no_pattern_keeps sets keep differ = record {
  sets_keep = keep;
  sets_differ = differ;
  prefix_with_patterns = ((λ h. cc), (λ h. absurd (h refl)));
  prefix_named = tt;
  patterns_named = All-nil PatternNamed;
  patterns_differ = all_differ [] refl;
  extracts_keep = All-nil ExtractionKeeps;
  formats_differ = all_differ [] refl;
  decoder_named = refl;
  union_sets_named = All-nil IsName;
  union_sets_differ = all_differ [] refl;
  union_with_patterns = λ e. refl;
  body_keeps = tt;
  body_cases = tt;
  body_below = tt;
  load_fits = tt;
  load_below = tt;
  load_cases = tt;
  calls_with_patterns = λ e. tt;
}

-- a program of one set and one pattern that has it, without a load function
module _ (w : Width) (s : SetDef) (prefix pattern : Name) (e : Extraction) (decoder : Name) (body : Stmts) where
  abbrev one_pattern : Program
  one_pattern = record {
    width = w;
    sets = s ∷ [];
    prefix = Some (record { name = prefix; is_static = true });
    patterns = record { name = pattern; set = s.name } ∷ [];
    extracts = e ∷ [];
    decoder = decoder;
    decoder_static = true;
    union_sets = s.name ∷ [];
    body = body;
    load = None;
  }

  -- what is left to show of it
  record PartsKeep : Type 0 where
    set_keeps : SetKeeps s
    prefix_named : IsName prefix
    pattern_named : IsName pattern
    extraction_keeps : ExtractionKeeps e
    decoder_named : IsName decoder
    body_keeps : StmtsKeep body
    body_cases : StmtsHaveCases body
    body_below : StmtsBelow (2 ^ width_bits w) body

  one_pattern_keeps : PartsKeep → KeepsRules one_pattern
  one_pattern_keeps h = record {
    sets_keep = one SetKeeps s h.set_keeps;
    sets_differ = all_differ (s.name ∷ []) refl;
    prefix_with_patterns = ((λ k e. cc), (λ k. refl));
    prefix_named = h.prefix_named;
    patterns_named = one PatternNamed _ (record { name = h.pattern_named; set = h.set_keeps.named });
    patterns_differ = all_differ (pattern ∷ []) refl;
    extracts_keep = one ExtractionKeeps e h.extraction_keeps;
    formats_differ = all_differ (e.format ∷ []) refl;
    decoder_named = h.decoder_named;
    union_sets_named = one IsName s.name h.set_keeps.named;
    union_sets_differ = all_differ (s.name ∷ []) refl;
    union_with_patterns = λ e. cc;
    body_keeps = h.body_keeps;
    body_cases = h.body_cases;
    body_below = h.body_below;
    load_fits = tt;
    load_below = tt;
    load_cases = tt;
    calls_with_patterns = λ e. cc;
  }

-- the lowest bits of the argument a, in an extraction
low_bits_keep : (name : Name) (signed : Bool) (n : ℕ) → IsName name → n < 2 ^ 32
    → AssignmentKeeps (record { argument = name; value = segment signed (argument None (codes "a")) 0 n })
low_bits_keep name signed n named small = record {
  argument = named;
  value = record { form = refl; names = (refl, lit< tt, small) };
  place = refl;
}

pub empty_keeps : KeepsRules empty_program
empty_keeps = no_pattern_keeps [] (All-nil SetKeeps) (all_differ [] refl)

pub arguments_keep : KeepsRules arguments_program
arguments_keep =
    no_pattern_keeps _
    (one SetKeeps _ (record {
      named = refl;
      inside = refl;
      few = lit≤ tt;
      arguments_named = two (λ (m : Member). IsName m.name) _ _ refl refl;
      arguments_differ = all_differ (codes "rd" ∷ codes "imm" ∷ []) refl;
      types = two (λ (m : Member). IsTypeKept m.ctype) _ _ tt tt;
    }))
    (all_differ (_ ∷ []) refl)

pub nop_keeps : KeepsRules nop_program
nop_keeps = one_pattern_keeps _ _ _ _ _ _ _ (record {
  set_keeps = record {
    named = refl;
    inside = refl;
    few = lit≤ tt;
    arguments_named = All-nil (λ (m : Member). IsName m.name);
    arguments_differ = all_differ [] refl;
    types = All-nil (λ (m : Member). IsTypeKept m.ctype);
  };
  prefix_named = refl;
  pattern_named = refl;
  extraction_keeps = record { format = refl; set = refl; assigns = All-nil AssignmentKeeps };
  decoder_named = refl;
  body_keeps = (((refl, refl), ((refl, refl), tt)), tt);
  body_cases = ((tt, (tt, tt)), tt);
  body_below = ((lit< tt, lit< tt, (tt, (tt, tt))), tt);
})

pub branch_keeps : KeepsRules branch_program
branch_keeps = one_pattern_keeps _ _ _ _ _ _ _ (record {
  set_keeps = record {
    named = refl;
    inside = refl;
    few = lit≤ tt;
    arguments_named = one (λ (m : Member). IsName m.name) _ refl;
    arguments_differ = all_differ (_ ∷ []) refl;
    types = one (λ (m : Member). IsTypeKept m.ctype) _ tt;
  };
  prefix_named = refl;
  pattern_named = refl;
  extraction_keeps = record {
    format = refl;
    set = refl;
    assigns = one AssignmentKeeps _ (record {
      argument = refl;
      value = record {
        form = (refl, (refl, (refl, (refl, tt, refl, tt), refl, tt), refl, tt));
        names = (
          (
            (
              (tt, lit< tt, lit< tt),
              lit< tt,
              lit< tt,
              (tt, lit< tt, lit< tt),
            ),
            lit< tt,
            lit< tt,
            (tt, lit< tt, lit< tt),
          ),
          lit< tt,
          lit< tt,
          (tt, lit< tt, lit< tt),
        );
      };
      place = (((tt, tt), tt), tt);
    });
  };
  decoder_named = refl;
  body_keeps = (((refl, refl), ((refl, refl), tt)), tt);
  body_cases = ((tt, (tt, tt)), tt);
  body_below = ((lit< tt, lit< tt, (tt, (tt, tt))), tt);
})

pub assigned_keeps : KeepsRules assigned_program
assigned_keeps = one_pattern_keeps _ _ _ _ _ _ _ (record {
  set_keeps = record {
    named = refl;
    inside = refl;
    few = lit≤ tt;
    arguments_named = four (λ (m : Member). IsName m.name) _ _ _ _ refl refl refl refl;
    arguments_differ = all_differ (codes "a" ∷ codes "b" ∷ codes "c" ∷ codes "d" ∷ []) refl;
    types = four (λ (m : Member). IsTypeKept m.ctype) _ _ _ _ tt tt tt tt;
  };
  prefix_named = refl;
  pattern_named = refl;
  extraction_keeps = record {
    format = refl;
    set = refl;
    assigns = one AssignmentKeeps _ (low_bits_keep _ _ _ refl (lit< tt));
  };
  decoder_named = refl;
  body_keeps = (
    (refl, refl, record { form = tt; names = lit< tt }, tt),
    (
      (refl, refl, record { form = tt; names = refl }, tt),
      (
        (refl, refl, record { form = (refl, refl); names = (refl, ((refl, refl), lit< tt, lit< tt)) }, refl),
        ((refl, refl), ((refl, refl), tt)),
      ),
    ),
  );
  body_cases = (tt, (tt, (tt, (tt, (tt, tt)))));
  body_below = (tt, (tt, (tt, (tt, (tt, tt)))));
})

pub placed_keep : KeepsRules (placed_program in_extraction in_decoder)
placed_keep = one_pattern_keeps _ _ _ _ _ _ _ (record {
  set_keeps = record {
    named = refl;
    inside = refl;
    few = lit≤ tt;
    arguments_named = two (λ (m : Member). IsName m.name) _ _ refl refl;
    arguments_differ = all_differ (codes "a" ∷ codes "b" ∷ []) refl;
    types = two (λ (m : Member). IsTypeKept m.ctype) _ _ tt tt;
  };
  prefix_named = refl;
  pattern_named = refl;
  extraction_keeps = record {
    format = refl;
    set = refl;
    assigns = one AssignmentKeeps _ (low_bits_keep _ _ _ refl (lit< tt));
  };
  decoder_named = refl;
  body_keeps = (
    (refl, refl, record { form = refl; names = ((refl, refl), lit< tt, lit< tt) }, refl),
    ((refl, refl), ((refl, refl), tt)),
  );
  body_cases = (tt, (tt, (tt, tt)));
  body_below = (tt, (tt, (tt, tt)));
})
