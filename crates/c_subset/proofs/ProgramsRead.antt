-- Whole programs are read exactly.
use Rattle.std.proofs.Common.{◌≡◌, ◌≢◌, ◌↔◌, ℕ, ◌+◌, ◌≤◌, ◌^◌, List, [], ◌∷◌, ◌++◌, Bool, true, false, cond, Option, Some}
use Rattle.std.proofs.Common.{None, option_map, option_and_then, refl, sym, ap, subst, ◌∙◌, append_assoc, append-nil, arith}
use Rattle.std.specs.Prelude.{IsSome, IfSome, map}
use Rattle.std.specs.List.{All}
use Rattle.std.proofs.lemmas.List.Elements.{All-nil, All-cons, All-head, All-tail, All-weaker}
use Rattle.dt_values.specs.Names.{IsName}
use Rattle.dt_values.specs.Widths.{width_bits}
use Rattle.dt_values.specs.declared.width.Width.{Width}
use Rattle.dt_values.specs.declared.set.SetDef.{SetDef}
use Rattle.c_tokens.specs.Tokens.{Token, tokens_of}
use Rattle.c_tokens.specs.Before.{tokens_before}
use Rattle.c_tokens.specs.Depth.{IsTooDeep}
use Rattle.c_tokens.specs.Parsing.{is_nothing}
use Rattle.c_tokens.proofs.Exact.{Reads, Made, both_reads, closed_reads, then_each_reads, made_reads, known_reads}
use Rattle.c_tokens.proofs.Exact.{bind_some, guard_some, some_is}
use Rattle.c_tokens.proofs.Whole.{all_before}
use Rattle.c_subset.specs.Programs.{Name, Stmts, Pattern, Prefix, Program, LoadBlock, prefix_of, decoder_end_spelled}
use Rattle.c_subset.specs.Programs.{stmts_spelled, load_function_spelled, spelling}
use Rattle.c_subset.specs.Keeps.{SetKeeps, LoadFits, LoadBelow}
use Rattle.c_subset.specs.Keeps.{LoadHasCases, KeepsRules}
use Rattle.c_subset.specs.Nesting.{StmtsWithin, LoadWithin}
use Rattle.c_subset.specs.Distinct.{HasDistinctArguments, HasDistinctNames}
use Rattle.c_subset.specs.Spells.{Spells, SpellsNone}
use Rattle.c_subset.specs.DeclarationParsing.{Declared}
use Rattle.c_subset.specs.ProgramParsing.{all_taken, read_whole, is_some_pattern, scope_for, Defined, body_at, defined_at}
use Rattle.c_subset.specs.ProgramParsing.{program_from, program_at}
use Rattle.c_subset.proofs.DeclarationsRead.{DeclaredKeeps, declared_spelled, declared_reads, declared_in, body_spelled}
use Rattle.c_subset.proofs.DeclarationsRead.{spelling_parts}
use Rattle.c_subset.proofs.SetsRead.{SetNamed, UnionKeeps, union_lines, union_reads, union_same}
use Rattle.c_subset.proofs.StmtsRead.{BodyKeeps, body_reads, return_stops, prefix_name}
use Rattle.c_subset.proofs.LoadsRead.{LoadKeeps, Ends, load_function_reads}
use Rattle.c_subset.proofs.Nestings.{within_some, more_within, load_within_some, more_load_within}
use Rattle.c_subset.proofs.Depths.{shallow}

-- ---- what stands behind the decoder's head
abbrev DefinedKeeps : ℕ → Declared → Defined → Type 0
DefinedKeeps braces d x =
    UnionKeeps (is_some_pattern d.patterns) x.0
    × (BodyKeeps (scope_for d) braces x.1.0 × IfSome x.1.1 (LoadKeeps d.width braces))

abbrev body_tokens : Declared → Stmts → List Token
body_tokens d ss = stmts_spelled d.width d.decoder (prefix_name (scope_for d).prefix) ss

abbrev defined_spelled : Declared → Defined → List Token
defined_spelled d x =
    union_lines (is_some_pattern d.patterns) x.0
    ++ ((body_tokens d x.1.0 ++ decoder_end_spelled)
    ++ load_function_spelled d.width d.decoder d.decoder_static x.1.1)

defined_reads : (braces : ℕ) (d : Declared)
    → Reads Ends (DefinedKeeps braces d) (defined_spelled d) (defined_at braces d)
unfolding defined_at body_at
defined_reads braces d =
    both_reads (λ y rest h k. tt) (union_reads (is_some_pattern d.patterns))
    (both_reads (λ y rest h k. tt)
    (closed_reads decoder_end_spelled (λ rest. return_stops _) (body_reads (scope_for d) braces))
    (load_function_reads d.width d.decoder d.decoder_static braces))

-- ---- programs, by the rules that their tokens decide
record IsReadable (braces : ℕ) (p : Program) : Type 0 where
  declared : DeclaredKeeps (declared_in p)
  defined : DefinedKeeps braces (declared_in p) (p.union_sets, (p.body, p.load))

same_prefix : (prefix : Option Prefix) → prefix_name (option_map (λ x. x.name) prefix) ≡ (prefix_of prefix).name
same_prefix None = refl
same_prefix (Some x) = refl

defined_same : (p : Program) → body_spelled p ≡ defined_spelled (declared_in p) (p.union_sets, (p.body, p.load))
defined_same p =
    let load = load_function_spelled p.width p.decoder p.decoder_static p.load in
    ap (λ l. l ++ (stmts_spelled p.width p.decoder (prefix_of p.prefix).name p.body ++ (decoder_end_spelled ++ load)))
    (union_same p.patterns p.union_sets)
    ∙ ap (λ n. union_lines (is_some_pattern p.patterns) p.union_sets
    ++ (stmts_spelled p.width p.decoder n p.body ++ (decoder_end_spelled ++ load))) (sym (same_prefix p.prefix))
    ∙ ap (λ l. union_lines (is_some_pattern p.patterns) p.union_sets ++ l)
    (sym (append_assoc (body_tokens (declared_in p) p.body) decoder_end_spelled load))

abbrev Parts : Type 0
Parts = Declared × Defined

abbrev parts_of : Program → Parts
parts_of p = (declared_in p, (p.union_sets, (p.body, p.load)))

abbrev PartsKeep : ℕ → Parts → Type 0
PartsKeep braces x = DeclaredKeeps x.0 × DefinedKeeps braces x.0 x.1

parts_there : (braces : ℕ) (p : Program) → IsReadable braces p → Made program_from (PartsKeep braces) p
parts_there braces p h = (parts_of p, (h.declared, h.defined), refl)

parts_back : (braces : ℕ) (p : Program) → Made program_from (PartsKeep braces) p → IsReadable braces p
parts_back braces p h = subst (IsReadable braces) h.2 (record { declared = h.1.0; defined = h.1.1 })

parts_same : (x : Parts) → spelling (program_from x) ≡ declared_spelled x.0 ++ defined_spelled x.0 x.1
parts_same x =
    spelling_parts (program_from x) ∙ ap (λ l. declared_spelled x.0 ++ l) (defined_same (program_from x))

programs_read : (braces : ℕ) → Reads Ends (IsReadable braces) spelling (program_at braces)
unfolding program_at
programs_read braces =
    known_reads (parts_there braces) (parts_back braces) (λ p h. refl)
    (made_reads {P = PartsKeep braces} program_from spelling (λ x h. parts_same x)
    (then_each_reads (λ x y rest h k. tt) declared_reads (λ d h. defined_reads braces d)))

-- ---- where all tokens are taken
no_token_left : (rest : List Token) → is_nothing rest ≡ true → rest ≡ []
no_token_left [] h = refl
no_token_left (t ∷ ts) h = absurd cc

whole_again : (braces : ℕ) (p : Program) → IsReadable braces p → read_whole (program_at braces) (spelling p) ≡ Some p
whole_again braces p h =
    ap (λ ts. option_and_then all_taken (program_at braces ts)) (sym (append-nil (spelling p)))
    ∙ ap (option_and_then all_taken) ((programs_read braces).again p [] h refl)

record IsWhole (braces : ℕ) (tokens : List Token) (p : Program) : Type 0 where
  readable : IsReadable braces p
  tokens_are : tokens ≡ spelling p

whole_sound : (braces : ℕ) (tokens : List Token) (p : Program) → read_whole (program_at braces) tokens ≡ Some p
    → IsWhole braces tokens p
whole_sound braces tokens p e =
    let b = bind_some all_taken (program_at braces tokens) p e in
    let g = guard_some (is_nothing b.0.1) b.0.0 p b.2 in
    let s = (programs_read braces).sound tokens b.0.0 b.0.1 b.1 in
    let none = no_token_left b.0.1 g.0 in
    subst (IsWhole braces tokens) g.1 (record {
      readable = s.0;
      tokens_are = s.1 ∙ ap (λ l. spelling b.0.0 ++ l) none ∙ append-nil (spelling b.0.0);
    })

-- ---- all rules
set_named : (s : SetDef) → SetKeeps s → SetNamed s
set_named s h = record {
  named = h.named;
  inside = h.inside;
  arguments_named = h.arguments_named;
  types = h.types;
}

union_by : (ps : List Pattern) (sets : List Name) → (ps ≡ [] → sets ≡ []) → All IsName sets
    → UnionKeeps (is_some_pattern ps) sets
union_by [] sets empty named = empty refl
union_by (p ∷ ps) sets empty named = named

without : (prefix : Option Prefix) (ps : List Pattern) → (IsSome prefix ↔ (ps ≢ []))
    → option_map (λ (x : Prefix). x.name) prefix ≡ None → ps ≡ []
without prefix [] h e = refl
without None (p ∷ ps) h e = absurd (let k : false ≡ true = h.1 (λ same. cc) in cc)
without (Some x) (p ∷ ps) h e = absurd cc

no_pattern_no_prefix : (prefix : Option Prefix) (ps : List Pattern) → (IsSome prefix ↔ (ps ≢ [])) → ps ≡ []
    → option_map (λ (x : Prefix). x.name) prefix ≡ None
no_pattern_no_prefix None ps h e = refl
no_pattern_no_prefix (Some x) ps h e = absurd (h.0 refl e)

union_named : (ps : List Pattern) (sets : List Name) → UnionKeeps (is_some_pattern ps) sets → All IsName sets
union_named [] sets h = subst (All IsName) (sym h) (All-nil IsName)
union_named (p ∷ ps) sets h = h

union_empty : (ps : List Pattern) (sets : List Name) → UnionKeeps (is_some_pattern ps) sets → ps ≡ [] → sets ≡ []
union_empty [] sets h e = h
union_empty (p ∷ ps) sets h e = absurd cc

load_part : {P Q : LoadBlock → Type 0} → ((b : LoadBlock) → P b → Q b) → (load : Option LoadBlock) → IfSome load P
    → IfSome load Q
load_part f None h = tt
load_part f (Some b) h = f b h

load_by : (w : Width) (braces : ℕ) (load : Option LoadBlock) → IfSome load LoadFits
    → IfSome load (LoadBelow (2 ^ width_bits w)) → IfSome load LoadHasCases → IfSome load (LoadWithin braces)
    → IfSome load (LoadKeeps w braces)
load_by w braces None fits below cases within = tt
load_by w braces (Some b) fits below cases within =
    record { fits = fits; below = below; cases = cases; within = within }

set_keeps : (s : SetDef) → SetNamed s → HasDistinctArguments s → SetKeeps s
set_keeps s h d = record {
  named = h.named;
  inside = h.inside;
  few = d.few;
  arguments_named = h.arguments_named;
  arguments_differ = d.arguments_differ;
  types = h.types;
}

set_distinct : (s : SetDef) → SetKeeps s → HasDistinctArguments s
set_distinct s h = record { few = h.few; arguments_differ = h.arguments_differ }

sets_keep : (sets : List SetDef) → All SetNamed sets → All HasDistinctArguments sets → All SetKeeps sets
sets_keep [] h d = All-nil SetKeeps
sets_keep (s ∷ ss) h d =
    All-cons SetKeeps s ss
    (set_keeps s (All-head SetNamed s ss h) (All-head HasDistinctArguments s ss d))
    (sets_keep ss (All-tail SetNamed s ss h) (All-tail HasDistinctArguments s ss d))

no_prefix_no_pattern : (p : Program) → KeepsRules p → option_map (λ (x : Prefix). x.name) p.prefix ≡ None → p.patterns ≡ []
no_prefix_no_pattern p h e = without p.prefix p.patterns h.prefix_with_patterns e

all_readable : (braces : ℕ) (p : Program) → KeepsRules p → StmtsWithin braces p.body → IfSome p.load (LoadWithin braces)
    → IsReadable braces p
all_readable braces p h body load = record {
  declared = record {
    sets_named = All-weaker SetKeeps SetNamed set_named p.sets h.sets_keep;
    prefix_with_patterns = h.prefix_with_patterns;
    prefix_named = h.prefix_named;
    patterns_named = h.patterns_named;
    extracts_keep = h.extracts_keep;
    decoder_named = h.decoder_named;
  };
  defined = (
    union_by p.patterns p.union_sets h.union_with_patterns h.union_sets_named,
    (
      record {
        keep = h.body_keeps;
        cases = h.body_cases;
        below = h.body_below;
        calls = λ e. h.calls_with_patterns (no_prefix_no_pattern p h e);
        within = body;
      },
      load_by p.width braces p.load h.load_fits h.load_below h.load_cases load,
    ),
  );
}

-- and those that a whole program alone decides
all_rules : (braces : ℕ) (p : Program) → IsReadable braces p → HasDistinctNames p → KeepsRules p
all_rules braces p r d = record {
  sets_keep = sets_keep p.sets r.declared.sets_named d.sets_distinct;
  sets_differ = d.sets_differ;
  prefix_with_patterns = r.declared.prefix_with_patterns;
  prefix_named = r.declared.prefix_named;
  patterns_named = r.declared.patterns_named;
  patterns_differ = d.patterns_differ;
  extracts_keep = r.declared.extracts_keep;
  formats_differ = d.formats_differ;
  decoder_named = r.declared.decoder_named;
  union_sets_named = union_named p.patterns p.union_sets r.defined.0;
  union_sets_differ = d.union_sets_differ;
  union_with_patterns = union_empty p.patterns p.union_sets r.defined.0;
  body_keeps = r.defined.1.0.keep;
  body_cases = r.defined.1.0.cases;
  body_below = r.defined.1.0.below;
  calls_with_patterns = λ e. r.defined.1.0.calls (no_pattern_no_prefix p.prefix p.patterns r.declared.prefix_with_patterns e);
  load_fits = load_part (λ b h. h.fits) p.load r.defined.1.1;
  load_below = load_part (λ b h. h.below) p.load r.defined.1.1;
  load_cases = load_part (λ b h. h.cases) p.load r.defined.1.1;
}

distinct_names : (p : Program) → KeepsRules p → HasDistinctNames p
distinct_names p h = record {
  sets_distinct = All-weaker SetKeeps HasDistinctArguments set_distinct p.sets h.sets_keep;
  sets_differ = h.sets_differ;
  patterns_differ = h.patterns_differ;
  formats_differ = h.formats_differ;
  union_sets_differ = h.union_sets_differ;
}

-- ---- one program a text
more_of_body : (m n : ℕ) (ss : Stmts) → StmtsWithin m ss → StmtsWithin (m + n) ss
more_of_body m n ss h = more_within m (m + n) ss (omega arith) h

-- a number that body and load function nest within
record NestsWithin (n : ℕ) (p : Program) : Type 0 where
  body : StmtsWithin n p.body
  load : IfSome p.load (LoadWithin n)

nests_more : (m n : ℕ) (p : Program) → m ≤ n → NestsWithin m p → NestsWithin n p
nests_more m n p le h = record {
  body = more_within m n p.body le h.body;
  load = load_part (λ b k. more_load_within m n b le k) p.load h.load;
}

load_nests : (load : Option LoadBlock) → (n : ℕ) × IfSome load (LoadWithin n)
load_nests None = (0, tt)
load_nests (Some b) = load_within_some b

nests_some : (p : Program) → (n : ℕ) × NestsWithin n p
nests_some p =
    let b = within_some p.body in
    let l = load_nests p.load in (
      b.0 + l.0,
      record {
        body = more_within b.0 (b.0 + l.0) p.body (omega arith) b.1;
        load = load_part (λ x k. more_load_within l.0 (b.0 + l.0) x (omega arith) k) p.load l.1;
      },
    )

read_within : (n : ℕ) (p : Program) → KeepsRules p → NestsWithin n p → read_whole (program_at n) (spelling p) ≡ Some p
read_within n p h k = whole_again n p (all_readable n p h k.body k.load)

pub spelled_once : (text : List ℕ) (p q : Program) → Spells text p → Spells text q → p ≡ q
spelled_once text p q h k =
    let a = nests_some p in
    let b = nests_some q in
    let n = a.0 + b.0 in
    let first = read_within n p h.rules (nests_more a.0 n p (omega arith) a.1) in
    let second = read_within n q k.rules (nests_more b.0 n q (omega arith) b.1) in
    let same : spelling q ≡ spelling p = some_is (spelling q) (spelling p) (sym k.tokens ∙ h.tokens) in
    some_is p q (sym first ∙ ap (read_whole (program_at n)) (sym same) ∙ second)

-- ---- what is read of a text
pub read_spells : (text : List ℕ) (tokens : List Token) (p : Program) → tokens_of text ≡ Some tokens
    → read_whole (program_at 127) tokens ≡ Some p → HasDistinctNames p → Spells text p
read_spells text tokens p has read distinct =
    let w = whole_sound 127 tokens p read in
    record { rules = all_rules 127 p w.readable distinct; tokens = has ∙ ap Some w.tokens_are }

pub no_tokens : (text : List ℕ) → tokens_of text ≡ None → SpellsNone text
no_tokens text none p h = let e : None ≡ Some (spelling p) = sym none ∙ h.tokens in cc

-- a program of a text that isn't too deep is read
is_read : (text : List ℕ) (tokens : List Token) (p : Program) → tokens_of text ≡ Some tokens
    → ¬ IsTooDeep (tokens_before text) → Spells text p → read_whole (program_at 127) tokens ≡ Some p
is_read text tokens p has flat h =
    let same : tokens ≡ spelling p = some_is tokens (spelling p) (sym has ∙ h.tokens) in
    let all : tokens_before text ≡ spelling p = all_before text (spelling p) h.tokens in
    let within = shallow p (λ deep. flat (subst IsTooDeep (sym all) deep)) in
    ap (read_whole (program_at 127)) same
    ∙ read_within 127 p h.rules (record { body = within.0; load = within.1 })

pub none_read : (text : List ℕ) (tokens : List Token) → tokens_of text ≡ Some tokens → ¬ IsTooDeep (tokens_before text)
    → read_whole (program_at 127) tokens ≡ None → SpellsNone text
none_read text tokens has flat none p h =
    let e : None ≡ Some p = sym none ∙ is_read text tokens p has flat h in cc

pub same_names : (text : List ℕ) (tokens : List Token) (q : Program) → tokens_of text ≡ Some tokens
    → ¬ IsTooDeep (tokens_before text) → read_whole (program_at 127) tokens ≡ Some q → ¬ HasDistinctNames q
    → SpellsNone text
same_names text tokens q has flat read same p h =
    let e : p ≡ q = some_is p q (sym (is_read text tokens p has flat h) ∙ read) in
    same (subst HasDistinctNames e (distinct_names p h.rules))
