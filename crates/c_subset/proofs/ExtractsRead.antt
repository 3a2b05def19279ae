-- Extractions and the decoder's head are read exactly.
use Rattle.std.proofs.Common.{◌≡◌, ℕ, List, [], ◌∷◌, ◌++◌, map, Bool, true, false, cond, ◌==◌, Option, Some, None}
use Rattle.std.proofs.Common.{◌<◌, length}
use Rattle.std.proofs.Common.{option_map, option_and_then, refl, sym, ap, subst, ◌∙◌, arith, append_assoc, inl, inr}
use Rattle.std.specs.Prelude.{codes, flat_map, nat_eq}
use Rattle.std.specs.List.{All, AllByRecursion}
use Rattle.std.specs.Cmp.Lexicographic.{pointwise}
use Rattle.dt_values.specs.Names.{IsName}
use Rattle.dt_values.specs.declared.width.Width.{Width}
use Rattle.dt_values.specs.declared.width.Width.TheVariants.{W16, W32, W64}
use Rattle.c_tokens.specs.Tokens.{Token, word, mark, double_equals, arrow}
use Rattle.c_tokens.specs.Marks.{close_brace, arg_}
use Rattle.c_tokens.specs.Parsing.{after, begins, first_word}
use Rattle.c_tokens.specs.WordParsing.{name_behind}
use Rattle.c_tokens.proofs.Exact.{Reads, Any, Stops, Starts, behind_reads, closed_reads, then_each_reads, both_reads}
use Rattle.c_tokens.proofs.Exact.{Made, made_reads, known_reads, word_reads, many_reads, tried_reads, bytes_are, guard_some}
use Rattle.c_tokens.proofs.Exact.{bind_some, map_some, cond_cases, some_is}
use Rattle.c_tokens.proofs.WordsRead.{behind_decodes}
use Rattle.c_exprs.specs.Exprs.{Assignment}
use Rattle.c_exprs.specs.Forms.{AssignmentKeeps}
use Rattle.c_exprs.specs.Spelling.{assignment_spelled}
use Rattle.c_exprs.specs.ExprParsing.{assignment_at}
use Rattle.c_exprs.proofs.SegmentsRead.{name_reads}
use Rattle.c_exprs.proofs.ExprsRead.{assignment_reads}
use Rattle.c_subset.specs.Programs.{Name, Extraction, word_type, extract_spelled, decoder_head_spelled}
use Rattle.c_subset.specs.Keeps.{ExtractionKeeps}
use Rattle.c_subset.specs.SetParsing.{is_inside}
use Rattle.c_subset.specs.PatternParsing.{bool_word, context_run}
use Rattle.c_subset.specs.ExtractParsing.{width_of, insn_run, width_at, Function, void_run, a_run, FunctionHead}
use Rattle.c_subset.specs.ExtractParsing.{function_head_at, assigns_at, function_of, function_at, starts_function, Head}
use Rattle.c_subset.specs.ExtractParsing.{head_of, head_at, same_width, with_format, extraction_under, extractions_under}
use Rattle.c_subset.specs.ExtractParsing.{under_head, extracts_at}
use Rattle.c_subset.proofs.Each.{each_there, each_back}
use Rattle.c_subset.proofs.ReadLoops.{shorter}
use Rattle.c_subset.proofs.SetsRead.{arg_reads, brace_stops}
use Rattle.c_subset.proofs.PatternsRead.{static_reads, bool_follows}

-- widths
width_again : (w : Width) → width_of (word_type w) ≡ Some w
width_again W16 = refl
width_again W32 = refl
width_again W64 = refl

width_sound : (t : List ℕ) (w : Width) → width_of t ≡ Some w → t ≡ word_type w
width_sound t w e =
    let C : Width → Type 0 = λ v. t ≡ word_type v in
    let last : Option Width = cond (pointwise nat_eq t (word_type W64)) (Some W64) None in
    let more : Option Width = cond (pointwise nat_eq t (word_type W32)) (Some W32) last in
    elim (cond_cases (pointwise nat_eq t (word_type W16)) (Some W16) more (Some w) e) [
      | inl h ↦ subst C (some_is W16 w h.1) (bytes_are t (word_type W16) h.0)
      | inr h ↦ elim (cond_cases (pointwise nat_eq t (word_type W32)) (Some W32) last (Some w) h.1) [
        | inl k ↦ subst C (some_is W32 w k.1) (bytes_are t (word_type W32) k.0)
        | inr k ↦
            let g = guard_some (pointwise nat_eq t (word_type W64)) W64 w k.1 in
            subst C g.1 (bytes_are t (word_type W64) g.0)
      ]
    ]

width_reads : Reads Any (λ w. Unit {0}) (λ w. word (word_type w) ∷ insn_run) width_at
unfolding width_at
width_reads =
    closed_reads insn_run (λ rest. tt)
    (word_reads (record { again = λ w h. width_again w; sound = λ t w e. (tt, width_sound t w e) }))

-- any word
first_sound : (ts : List Token) (w : List ℕ) (rest : List Token) → first_word ts ≡ Some (w, rest) → ts ≡ word w ∷ rest
first_sound [] w rest e = absurd cc
first_sound (word v ∷ ts) w rest e = ap (λ x. word x.0 ∷ x.1) (some_is (v, ts) (w, rest) e)
first_sound (mark b ∷ ts) w rest e = absurd cc
first_sound (double_equals ∷ ts) w rest e = absurd cc
first_sound (arrow ∷ ts) w rest e = absurd cc

first_reads : Reads Any (λ w. Unit {0}) (λ w. word w ∷ []) first_word
first_reads = record { again = λ w rest h k. refl; sound = λ ts w rest e. (tt, first_sound ts w rest e) }

-- an extraction as it stands: its function's whole name, and its own width
abbrev HeadKeeps : FunctionHead → Type 0
HeadKeeps x = Unit {0} × (IsName x.1.0 × Unit {0})

abbrev function_head_spelled : FunctionHead → List Token
function_head_spelled x =
    void_run
    ++ ((word x.0 ∷ []) ++ (context_run ++ ((arg_ x.1.0 ∷ []) ++ (a_run ++ (word (word_type x.1.1) ∷ insn_run)))))

function_head_reads : Reads Any HeadKeeps function_head_spelled function_head_at
unfolding function_head_at
function_head_reads =
    behind_reads void_run (both_reads (λ y rest h k. tt) first_reads
    (behind_reads context_run (both_reads (λ y rest h k. tt) arg_reads
    (behind_reads a_run width_reads))))

assign_starts : (w : Width) → Starts AssignmentKeeps (assignment_spelled w) is_inside
unfolding is_inside begins after
assign_starts w = record { first = λ x rest h. refl; some = λ x h. omega arith }

abbrev assigns_spelled : Width → List Assignment → List Token
assigns_spelled w xs = flat_map (assignment_spelled w) xs ++ close_brace ∷ []

assigns_reads : (w : Width) → Reads Any (All AssignmentKeeps) (assigns_spelled w) (assigns_at w)
unfolding assigns_at
assigns_reads w =
    known_reads (each_there AssignmentKeeps) (each_back AssignmentKeeps) (λ x h. refl)
    (closed_reads (close_brace ∷ []) brace_stops (many_reads is_inside (assign_starts w) (assignment_reads w)))

record FunctionKeeps (f : Function) : Type 0 where
  set : IsName f.set
  assigns : All AssignmentKeeps f.assigns

abbrev function_spelled : Function → List Token
function_spelled f = function_head_spelled (f.name, (f.set, f.width)) ++ assigns_spelled f.width f.assigns

abbrev FunctionParts : Type 0
FunctionParts = FunctionHead × List Assignment

abbrev PartsKeep : FunctionParts → Type 0
PartsKeep x = HeadKeeps x.0 × All AssignmentKeeps x.1

function_there : (f : Function) → FunctionKeeps f → Made function_of PartsKeep f
function_there f h = (((f.name, (f.set, f.width)), f.assigns), ((tt, (h.set, tt)), h.assigns), refl)

function_back : (f : Function) → Made function_of PartsKeep f → FunctionKeeps f
function_back f h = subst FunctionKeeps h.2 (record { set = h.1.0.1.0; assigns = h.1.1 })

function_reads : Reads Any FunctionKeeps function_spelled function_at
unfolding function_at
function_reads =
    known_reads function_there function_back (λ f h. refl)
    (made_reads {P = PartsKeep} function_of function_spelled (λ x h. refl)
    (then_each_reads {P = HeadKeeps} {Q = λ x ys. All AssignmentKeeps ys} (λ x y rest h k. tt) function_head_reads
    (λ x h. assigns_reads x.1.1)))

function_starts : Starts FunctionKeeps function_spelled starts_function
unfolding starts_function begins after
function_starts = record { first = λ x rest h. refl; some = λ x h. omega arith }

-- the decoder's head
abbrev pub head_spelled : Head → List Token
head_spelled h = decoder_head_spelled h.width h.decoder h.is_static

abbrev HeadParts : Type 0
HeadParts = Bool × (Name × Width)

abbrev HeadNamed : HeadParts → Type 0
HeadNamed x = Unit {0} × (IsName x.1.0 × Unit {0})

abbrev DecoderNamed : Head → Type 0
DecoderNamed h = IsName h.decoder

head_there : (h : Head) → DecoderNamed h → Made head_of HeadNamed h
head_there h k = ((h.is_static, (h.decoder, h.width)), (tt, (k, tt)), refl)

head_back : (h : Head) → Made head_of HeadNamed h → DecoderNamed h
head_back h m = subst DecoderNamed m.2 m.1.1.0

pub head_reads : Reads Any DecoderNamed head_spelled head_at
unfolding head_at
head_reads =
    known_reads head_there head_back (λ h k. refl)
    (made_reads {P = HeadNamed} head_of head_spelled (λ x k. refl)
    (both_reads (λ y rest k l. bool_follows _) static_reads
    (behind_reads bool_word (both_reads (λ y rest h k. tt) name_reads (behind_reads context_run width_reads)))))

head_stops_at : (w : Width) (d : Name) (b : Bool) (rest : List Token)
    → Stops starts_function (decoder_head_spelled w d b ++ rest)
unfolding starts_function begins after
head_stops_at w d true rest = refl
head_stops_at w d false rest = refl

-- the function that an extraction is
abbrev function_for : Head → Extraction → Function
function_for h e = record {
  name = h.decoder ++ codes "_extract_" ++ e.format;
  set = e.set;
  width = h.width;
  assigns = e.assigns;
}

same_width_self : (w : Width) → same_width w w ≡ true
same_width_self W16 = refl
same_width_self W32 = refl
same_width_self W64 = refl

same_width_is : (v w : Width) → same_width v w ≡ true → v ≡ w
same_width_is W16 W16 h = refl
same_width_is W16 W32 h = absurd cc
same_width_is W16 W64 h = absurd cc
same_width_is W32 W16 h = absurd cc
same_width_is W32 W32 h = refl
same_width_is W32 W64 h = absurd cc
same_width_is W64 W16 h = absurd cc
same_width_is W64 W32 h = absurd cc
same_width_is W64 W64 h = refl

one_there : (h : Head) (e : Extraction) → ExtractionKeeps e → extraction_under h (function_for h e) ≡ Some e
one_there h e k =
    let f = function_for h e in
    let cut : Option Extraction = option_map (with_format f) (name_behind (h.decoder ++ codes "_extract_") f.name) in
    ap (λ b. cond b cut None) (same_width_self h.width)
    ∙ ap (option_map (with_format f)) ((behind_decodes (h.decoder ++ codes "_extract_")).again e.format k.format)

abbrev functions_for : Head → List Extraction → List Function
functions_for h es = map (function_for h) es

all_there : (h : Head) (es : List Extraction) → AllByRecursion ExtractionKeeps es
    → AllByRecursion FunctionKeeps (functions_for h es) × (extractions_under h (functions_for h es) ≡ Some es)
all_there h [] k = (tt, refl)
all_there h (e ∷ es) k =
    let more = all_there h es k.1 in
    let rest : Option (List Extraction) = extractions_under h (functions_for h es) in (
      (record { set = k.0.set; assigns = k.0.assigns }, more.0),
      ap (option_and_then (λ x. option_map (λ l. x ∷ l) rest)) (one_there h e k.0) ∙ ap (option_map (λ l. e ∷ l)) more.1,
    )

abbrev IsOne : Head → Function → Extraction → Type 0
IsOne h f e = ExtractionKeeps e × (f ≡ function_for h e)

one_back : (h : Head) (f : Function) (e : Extraction) → FunctionKeeps f → extraction_under h f ≡ Some e → IsOne h f e
one_back h f e k is =
    let cut : Option Extraction = option_map (with_format f) (name_behind (h.decoder ++ codes "_extract_") f.name) in
    elim (cond_cases (same_width f.width h.width) cut None (Some e) is) [
      | inl l ↦
          let m = map_some (with_format f) (name_behind (h.decoder ++ codes "_extract_") f.name) e l.1 in
          let s = (behind_decodes (h.decoder ++ codes "_extract_")).sound f.name m.0 m.1 in
          let width = same_width_is f.width h.width l.0 in
          subst (IsOne h f) m.2 (
            record { format = s.0; set = k.set; assigns = k.assigns },
            λ i. record { name = s.1 i; set = f.set; width = width i; assigns = f.assigns },
          )
      | inr l ↦ absurd (let q : None ≡ Some e = l.1 in cc)
    ]

abbrev AreAll : Head → List Function → List Extraction → Type 0
AreAll h fs es = AllByRecursion ExtractionKeeps es × (fs ≡ functions_for h es)

all_back : (h : Head) (fs : List Function) (es : List Extraction) → AllByRecursion FunctionKeeps fs
    → extractions_under h fs ≡ Some es → AreAll h fs es
all_back h [] es k is = subst (AreAll h []) (some_is [] es is) (tt, refl)
all_back h (f ∷ fs) es k is =
    let b = bind_some (λ e. option_map (λ l. e ∷ l) (extractions_under h fs)) (extraction_under h f) es is in
    let m = map_some (λ l. b.0 ∷ l) (extractions_under h fs) es b.2 in
    let one = one_back h f b.0 k.0 b.1 in
    let more = all_back h fs m.0 k.1 m.1 in
    subst (AreAll h (f ∷ fs)) m.2 ((one.0, more.0), λ i. one.1 i ∷ more.1 i)

-- all extractions, and the decoder's head
abbrev pub Extracts : Type 0
Extracts = List Extraction × Head

pub record ExtractsKeep (x : Extracts) : Type 0 where
  pub extracts : All ExtractionKeeps x.0
  pub decoder : IsName x.1.decoder

abbrev pub extracts_spelled : Extracts → List Token
extracts_spelled x = flat_map (extract_spelled x.1.width x.1.decoder) x.0 ++ head_spelled x.1

abbrev Functions : Type 0
Functions = List Function × Head

abbrev FunctionsKeep : Functions → Type 0
FunctionsKeep y = AllByRecursion FunctionKeeps y.0 × DecoderNamed y.1

abbrev raw_for : Extracts → Functions
raw_for x = (functions_for x.1 x.0, x.1)

under_there : (x : Extracts) → ExtractsKeep x → FunctionsKeep (raw_for x) × (under_head (raw_for x) ≡ Some x)
under_there x k =
    let q = all_there x.1 x.0 (each_there ExtractionKeeps x.0 k.extracts) in
    ((q.0, k.decoder), ap (option_map (λ es. (es, x.1))) q.1)

under_back : (y : Functions) (x : Extracts) → FunctionsKeep y → under_head y ≡ Some x → ExtractsKeep x × (y ≡ raw_for x)
under_back y x k is =
    let m = map_some (λ es. (es, y.1)) (extractions_under y.1 y.0) x is in
    let q = all_back y.1 y.0 m.0 k.0 m.1 in
    subst (λ v. ExtractsKeep v × (y ≡ raw_for v)) m.2 (
      record { extracts = each_back ExtractionKeeps m.0 q.0; decoder = k.1 },
      λ i. (q.1 i, y.1),
    )

functions_same : (h : Head) (es : List Extraction)
    → flat_map (extract_spelled h.width h.decoder) es ≡ flat_map function_spelled (functions_for h es)
functions_same h [] = refl
functions_same h (e ∷ es) = ap (λ l. extract_spelled h.width h.decoder e ++ l) (functions_same h es)

pub extracts_reads : Reads Any ExtractsKeep extracts_spelled extracts_at
unfolding extracts_at
extracts_reads =
    known_reads (λ x k. k) (λ x k. k) (λ x k. ap (λ l. l ++ head_spelled x.1) (functions_same x.1 x.0))
    (tried_reads under_head raw_for under_there under_back
    (both_reads (λ h rest k l. head_stops_at h.width h.decoder h.is_static rest)
    (many_reads starts_function function_starts function_reads) head_reads))

-- each item takes tokens
pub assignment_shorter : (w : Width) (ts : List Token) (x : Assignment) (rest : List Token)
    → assignment_at w ts ≡ Some (x, rest) → length rest < length ts
assignment_shorter w = shorter (assignment_reads w) (assign_starts w)

pub function_shorter : (ts : List Token) (x : Function) (rest : List Token) → function_at ts ≡ Some (x, rest)
    → length rest < length ts
function_shorter = shorter function_reads function_starts
