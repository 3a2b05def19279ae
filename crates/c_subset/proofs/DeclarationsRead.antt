-- All that stands before the decoder's body is read exactly.
use Rattle.std.proofs.Common.{◌≡◌, ◌≢◌, ◌↔◌, List, [], ◌∷◌, ◌++◌, Bool, true, false, Option, Some, None, refl, sym, ap}
use Rattle.std.proofs.Common.{subst, ◌∙◌, append_assoc}
use Rattle.std.specs.Prelude.{flat_map, IsSome, IfSome}
use Rattle.std.specs.List.{All}
use Rattle.dt_values.specs.Names.{IsName}
use Rattle.dt_values.specs.declared.width.Width.{Width}
use Rattle.c_tokens.specs.Tokens.{Token}
use Rattle.c_tokens.specs.Parsing.{after, begins}
use Rattle.c_tokens.proofs.Exact.{Reads, Any, Stops, both_reads, Made, made_reads, known_reads}
use Rattle.c_subset.specs.ExtractParsing.{Head}
use Rattle.c_subset.specs.Programs.{Name, Prefix, Pattern, Extraction, Program}
use Rattle.c_subset.specs.Programs.{set_spelled, prefix_of, pattern_spelled, extract_spelled, union_spelled}
use Rattle.c_subset.specs.Programs.{decoder_head_spelled, stmts_spelled, decoder_end_spelled, load_function_spelled}
use Rattle.c_subset.specs.Programs.{spelling}
use Rattle.c_subset.specs.Keeps.{PatternNamed, ExtractionKeeps}
use Rattle.c_subset.specs.SetParsing.{starts_set}
use Rattle.c_subset.specs.PatternParsing.{starts_pattern}
use Rattle.c_subset.specs.DeclarationParsing.{Declared, Parts, declared_of, declared_at}
use Rattle.c_subset.proofs.SetsRead.{SetNamed, sets_reads}
use Rattle.c_subset.proofs.PatternsRead.{PatternsKeep, patterns_spelled, patterns_reads}
use Rattle.c_subset.proofs.ExtractsRead.{Extracts, ExtractsKeep, extracts_spelled, extracts_reads}

-- the rules of what is declared that its own text decides
pub record DeclaredKeeps (d : Declared) : Type 0 where
  pub sets_named : All SetNamed d.sets
  pub prefix_with_patterns : IsSome d.prefix ↔ (d.patterns ≢ [])
  pub prefix_named : IfSome d.prefix (λ prefix. IsName prefix.name)
  pub patterns_named : All PatternNamed d.patterns
  pub extracts_keep : All ExtractionKeeps d.extracts
  pub decoder_named : IsName d.decoder

abbrev pub declared_spelled : Declared → List Token
declared_spelled d =
    flat_map set_spelled d.sets
    ++ (flat_map (pattern_spelled (prefix_of d.prefix)) d.patterns
    ++ (flat_map (extract_spelled d.width d.decoder) d.extracts
    ++ decoder_head_spelled d.width d.decoder d.decoder_static))

abbrev PartsKeep : Parts → Type 0
PartsKeep x = All SetNamed x.0 × (PatternsKeep x.1.0 × ExtractsKeep x.1.1)

abbrev parts_of : Declared → Parts
parts_of d = (
  d.sets,
  ((d.prefix, d.patterns), (d.extracts, record { is_static = d.decoder_static; decoder = d.decoder; width = d.width })),
)

declared_there : (d : Declared) → DeclaredKeeps d → Made declared_of PartsKeep d
declared_there d h = (
  parts_of d,
  (
    h.sets_named,
    (
      record {
        prefix_with_patterns = h.prefix_with_patterns;
        prefix_named = h.prefix_named;
        patterns_named = h.patterns_named;
      },
      record { extracts = h.extracts_keep; decoder = h.decoder_named },
    ),
  ),
  refl,
)

declared_back : (d : Declared) → Made declared_of PartsKeep d → DeclaredKeeps d
declared_back d h = subst DeclaredKeeps h.2 (record {
  sets_named = h.1.0;
  prefix_with_patterns = h.1.1.0.prefix_with_patterns;
  prefix_named = h.1.1.0.prefix_named;
  patterns_named = h.1.1.0.patterns_named;
  extracts_keep = h.1.1.1.extracts;
  decoder_named = h.1.1.1.decoder;
})

-- neither a set nor a pattern stands behind the patterns
abbrev Follows : List Token → Type 0
Follows ts = Stops starts_set ts × Stops starts_pattern ts

head_follows : (w : Width) (d : Name) (b : Bool) (rest : List Token)
    → Follows (decoder_head_spelled w d b ++ rest)
unfolding starts_set starts_pattern begins after
head_follows w d true rest = (refl, refl)
head_follows w d false rest = (refl, refl)

extracts_follow : (es : List Extraction) (h : Head) (rest : List Token) → Follows (extracts_spelled (es, h) ++ rest)
unfolding starts_set starts_pattern begins after
extracts_follow [] h rest = head_follows h.width h.decoder h.is_static rest
extracts_follow (e ∷ es) h rest = (refl, refl)

-- no set stands behind the sets
patterns_follow : (ps : List Pattern) (prefix : Option Prefix) (x : Extracts) (rest : List Token)
    → Stops starts_set ((patterns_spelled (prefix, ps) ++ extracts_spelled x) ++ rest)
unfolding starts_set begins after
patterns_follow [] prefix x rest = (extracts_follow x.0 x.1 rest).0
patterns_follow (p ∷ ps) prefix x rest = refl

pub declared_reads : Reads Any DeclaredKeeps declared_spelled declared_at
unfolding declared_at
declared_reads =
    known_reads declared_there declared_back (λ d h. refl)
    (made_reads {P = PartsKeep} declared_of declared_spelled (λ x h. refl)
    (both_reads (λ y rest h k. patterns_follow y.0.1 y.0.0 y.1 rest) sets_reads
    (both_reads (λ y rest h k. (extracts_follow y.0 y.1 rest).1) patterns_reads extracts_reads)))

-- what a program declares before its decoder's body
abbrev pub declared_in : Program → Declared
declared_in p = record {
  sets = p.sets;
  prefix = p.prefix;
  patterns = p.patterns;
  extracts = p.extracts;
  decoder = p.decoder;
  decoder_static = p.decoder_static;
  width = p.width;
}

abbrev pub body_spelled : Program → List Token
body_spelled p =
    union_spelled p.patterns p.union_sets
    ++ (stmts_spelled p.width p.decoder (prefix_of p.prefix).name p.body
    ++ (decoder_end_spelled ++ load_function_spelled p.width p.decoder p.decoder_static p.load))

four_parts : (a b c d e : List Token) → a ++ (b ++ (c ++ (d ++ e))) ≡ (a ++ (b ++ (c ++ d))) ++ e
four_parts a b c d e =
    ap (λ l. a ++ (b ++ l)) (sym (append_assoc c d e))
    ∙ ap (λ l. a ++ l) (sym (append_assoc b (c ++ d) e))
    ∙ sym (append_assoc a (b ++ (c ++ d)) e)

-- a program is spelled by what it declares, and its body behind it
pub spelling_parts : (p : Program) → spelling p ≡ declared_spelled (declared_in p) ++ body_spelled p
unfolding spelling
spelling_parts p =
    four_parts (flat_map set_spelled p.sets)
    (flat_map (pattern_spelled (prefix_of p.prefix)) p.patterns)
    (flat_map (extract_spelled p.width p.decoder) p.extracts)
    (decoder_head_spelled p.width p.decoder p.decoder_static)
    (body_spelled p)
