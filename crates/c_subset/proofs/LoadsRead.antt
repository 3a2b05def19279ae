-- The load function is read exactly.
use Rattle.std.proofs.Common.{◌≡◌, ℕ, zero, suc, ◌<◌, ◌^◌, List, [], ◌∷◌, ◌++◌, length, Bool, true, false, Option}
use Rattle.std.proofs.Common.{Some, None, refl, sym, ap, subst, ◌∙◌, arith, append_assoc, length-append, ◌⊎◌, inl, inr}
use Rattle.std.specs.Prelude.{decimal, flat_map, IfSome}
use Rattle.std.specs.List.{AllByRecursion}
use Rattle.dt_values.specs.declared.width.Width.{Width}
use Rattle.dt_values.specs.Widths.{width_bits}
use Rattle.c_tokens.specs.Front.{number_at}
use Rattle.c_tokens.specs.Marks.{comma, hex_word}
use Rattle.c_tokens.specs.Parsing.{Parse, after, begins, is_nothing}
use Rattle.c_tokens.specs.Tokens.{Token, word}
use Rattle.c_tokens.proofs.Exact.{Reads, Any, Stops, Starts, behind_reads, closed_reads, both_reads, Made, made_reads}
use Rattle.c_tokens.proofs.Exact.{choose_reads, known_reads, guarded_reads, nothing_reads, found_reads, word_reads}
use Rattle.c_tokens.proofs.Exact.{weaken_reads, many_reads}
use Rattle.c_tokens.proofs.WordsRead.{number_decodes}
use Rattle.c_subset.specs.Keeps.{BytesFit, LoadFits, LoadSwitchFits, LoadCasesFit, LoadBelow, LoadSwitchBelow}
use Rattle.c_subset.specs.Keeps.{LoadCasesBelow, IsSomeLoadCase, LoadHasCases, LoadSwitchHasCases, LoadCasesHaveCases}
use Rattle.c_subset.specs.Nesting.{LoadWithin, LoadSwitchWithin, LoadCasesWithin}
use Rattle.c_subset.specs.Programs.{Name, LoadBlock, load_block, LoadSwitch, no_switch, load_switch, LoadCases}
use Rattle.c_subset.specs.Programs.{no_load_case, or_load_case, case_spelled, load_bytes_spelled, return_insn_spelled}
use Rattle.c_subset.specs.Programs.{load_spelled, load_switch_spelled, load_cases_spelled, load_function_spelled}
use Rattle.c_subset.specs.View.{load_cases_from, load_switch_from}
use Rattle.c_subset.specs.StmtParsing.{block_open, block_end, switch_word, switch_open, starts_case, has_item}
use Rattle.c_subset.specs.LoadParsing.{insn_word, insn_assigned, load_bytes_word, bytes_open, bytes_end, bytes_at}
use Rattle.c_subset.specs.LoadParsing.{maybe_bytes_at, load_case_at, load_switch_at, maybe_switch_at, block_of}
use Rattle.c_subset.specs.LoadParsing.{load_block_at, load_inner_at, load_at, load_type, load_word, load_open}
use Rattle.c_subset.specs.LoadParsing.{insn_zero, some_load_at, load_function_at}
use Rattle.c_subset.proofs.StmtsRead.{Below, switch_head_reads, case_head_reads, cases_stop}

number_reads : Reads Any (λ n. n < 2 ^ 32) (λ n. word (decimal n) ∷ []) number_at
unfolding number_at
number_reads = word_reads (number_decodes (2 ^ 32) (omega arith))

-- the bytes that are loaded
abbrev BothFit : ℕ × ℕ → Type 0
BothFit x = (x.0 < 2 ^ 32) × (x.1 < 2 ^ 32)

bytes_reads : (d : Name) → Reads Any BothFit (λ x. load_bytes_spelled d (Some x)) (bytes_at d)
unfolding bytes_at
bytes_reads d =
    known_reads (λ x h. h) (λ x h. h) (λ x h. refl)
    (behind_reads insn_assigned (behind_reads (load_bytes_word d) (behind_reads bytes_open
    (both_reads (λ y rest h k. tt) number_reads
    (behind_reads (comma ∷ []) (closed_reads bytes_end (λ rest. tt) number_reads))))))

bytes_there : (o : Option (ℕ × ℕ)) → BytesFit o → Made Some BothFit o ⊎ (o ≡ None)
bytes_there None h = inr refl
bytes_there (Some x) h = inl (x, h, refl)

bytes_back : (o : Option (ℕ × ℕ)) → Made Some BothFit o ⊎ (o ≡ None) → BytesFit o
bytes_back o (inl h) = subst BytesFit h.2 h.1
bytes_back o (inr h) = subst BytesFit (sym h) tt

is_bytes : (d : Name) (o : Option (ℕ × ℕ)) (rest : List Token) → Made Some BothFit o → Stops (begins insn_word) rest
    → begins insn_word (load_bytes_spelled d o ++ rest) ≡ true
unfolding begins after
is_bytes d o rest h k = subst (λ x. begins insn_word (load_bytes_spelled d x ++ rest) ≡ true) h.2 refl

no_bytes : (d : Name) (o : Option (ℕ × ℕ)) (rest : List Token) → o ≡ None → Stops (begins insn_word) rest
    → begins insn_word (load_bytes_spelled d o ++ rest) ≡ false
no_bytes d o rest h k = subst (λ x. begins insn_word (load_bytes_spelled d x ++ rest) ≡ false) (sym h) k

none_spelled : (d : Name) (o : Option (ℕ × ℕ)) → o ≡ None → load_bytes_spelled d o ≡ []
none_spelled d o h = subst (λ x. load_bytes_spelled d x ≡ []) (sym h) refl

maybe_bytes_reads : (d : Name)
    → Reads (Stops (begins insn_word)) BytesFit (load_bytes_spelled d) (maybe_bytes_at d)
unfolding maybe_bytes_at
maybe_bytes_reads d =
    known_reads bytes_there bytes_back (λ o h. refl)
    (choose_reads (begins insn_word) (is_bytes d) (no_bytes d)
    (weaken_reads (made_reads Some (load_bytes_spelled d) (λ x h. refl) (bytes_reads d)))
    (weaken_reads (known_reads (λ o h. h) (λ o h. h) (none_spelled d) (found_reads None))))

-- the cases of a switch; B is what may stand in a case
abbrev one_load_case : Width → Name → ℕ × LoadBlock → List Token
one_load_case w d c = case_spelled w c.0 ++ load_spelled w d c.1

abbrev LoadCaseWith : Width → (LoadBlock → Type 0) → ℕ × LoadBlock → Type 0
LoadCaseWith w B c = Below w c.0 × B c.1

load_case_reads : (w : Width) (d : Name) (B : LoadBlock → Type 0) (inner : Parse LoadBlock)
    → Reads Any B (load_spelled w d) inner
    → Reads Any (LoadCaseWith w B) (one_load_case w d) (load_case_at w inner)
unfolding load_case_at
load_case_reads w d B inner r = both_reads (λ y rest h k. tt) (case_head_reads w) r

load_case_starts : (w : Width) (d : Name) (B : LoadBlock → Type 0)
    → Starts (LoadCaseWith w B) (one_load_case w d) starts_case
unfolding starts_case begins after
load_case_starts w d B = record { first = λ x rest h. refl; some = λ x h. omega arith }

abbrev LoadSwitches : Width → (LoadBlock → Type 0) → ℕ × List (ℕ × LoadBlock) → Type 0
LoadSwitches w B x = Below w x.0 × (AllByRecursion (LoadCaseWith w B) x.1 × (has_item x.1 ≡ true))

-- a switch, where there is one, under the form in which it is read
abbrev maybe_switch_spelled : Width → Name → Option (ℕ × List (ℕ × LoadBlock)) → List Token
maybe_switch_spelled w d o = load_switch_spelled w d (load_switch_from o)

load_cases_same : (w : Width) (d : Name) (cs : List (ℕ × LoadBlock))
    → load_cases_spelled w d (load_cases_from cs) ≡ flat_map (one_load_case w d) cs
load_cases_same w d [] = refl
load_cases_same w d (c ∷ cs) =
    ap (λ l. case_spelled w c.0 ++ (load_spelled w d c.1 ++ l)) (load_cases_same w d cs)
    ∙ sym (append_assoc (case_spelled w c.0) (load_spelled w d c.1) (flat_map (one_load_case w d) cs))

load_switch_same : (w : Width) (d : Name) (x : ℕ × List (ℕ × LoadBlock))
    → maybe_switch_spelled w d (Some x)
    ≡ (switch_open ++ (hex_word w x.0 ∷ block_open)) ++ (flat_map (one_load_case w d) x.1 ++ block_end)
load_switch_same w d x =
    ap (λ l. (switch_open ++ (hex_word w x.0 ∷ block_open)) ++ (l ++ block_end)) (load_cases_same w d x.1)

load_switch_reads : (w : Width) (d : Name) (B : LoadBlock → Type 0) (inner : Parse LoadBlock)
    → Reads Any B (load_spelled w d) inner
    → Reads Any (LoadSwitches w B) (λ x. maybe_switch_spelled w d (Some x)) (load_switch_at w inner)
unfolding load_switch_at
load_switch_reads w d B inner r =
    known_reads (λ x h. h) (λ x h. h) (λ x h. load_switch_same w d x)
    (both_reads (λ y rest h k. tt) (switch_head_reads w)
    (closed_reads block_end cases_stop
    (guarded_reads has_item (many_reads starts_case (load_case_starts w d B) (load_case_reads w d B inner r)))))

abbrev MaybeSwitch : Width → (LoadBlock → Type 0) → Option (ℕ × List (ℕ × LoadBlock)) → Type 0
MaybeSwitch w B None = Unit {0}
MaybeSwitch w B (Some x) = LoadSwitches w B x

abbrev SwitchOrNone : Width → (LoadBlock → Type 0) → Option (ℕ × List (ℕ × LoadBlock)) → Type 0
SwitchOrNone w B o = Made Some (LoadSwitches w B) o ⊎ (o ≡ None)

switch_there : (w : Width) (B : LoadBlock → Type 0) (o : Option (ℕ × List (ℕ × LoadBlock))) → MaybeSwitch w B o
    → SwitchOrNone w B o
switch_there w B None h = inr refl
switch_there w B (Some x) h = inl (x, h, refl)

switch_back : (w : Width) (B : LoadBlock → Type 0) (o : Option (ℕ × List (ℕ × LoadBlock))) → SwitchOrNone w B o
    → MaybeSwitch w B o
switch_back w B o (inl h) = subst (MaybeSwitch w B) h.2 h.1
switch_back w B o (inr h) = subst (MaybeSwitch w B) (sym h) tt

abbrev BeginsSwitch : Width → Name → List Token → Bool → Option (ℕ × List (ℕ × LoadBlock)) → Type 0
BeginsSwitch w d rest b o = begins switch_word (maybe_switch_spelled w d o ++ rest) ≡ b

is_switch : (w : Width) (d : Name) (B : LoadBlock → Type 0) (o : Option (ℕ × List (ℕ × LoadBlock)))
    (rest : List Token) → Made Some (LoadSwitches w B) o → Stops (begins switch_word) rest
    → BeginsSwitch w d rest true o
unfolding begins after
is_switch w d B o rest h k = subst (BeginsSwitch w d rest true) h.2 refl

not_switch : (w : Width) (d : Name) (o : Option (ℕ × List (ℕ × LoadBlock))) (rest : List Token) → o ≡ None
    → Stops (begins switch_word) rest → BeginsSwitch w d rest false o
not_switch w d o rest h k = subst (BeginsSwitch w d rest false) (sym h) k

no_switch_spelled : (w : Width) (d : Name) (o : Option (ℕ × List (ℕ × LoadBlock))) → o ≡ None
    → maybe_switch_spelled w d o ≡ []
no_switch_spelled w d o h = subst (λ x. maybe_switch_spelled w d x ≡ []) (sym h) refl

maybe_switch_reads : (w : Width) (d : Name) (B : LoadBlock → Type 0) (inner : Parse LoadBlock)
    → Reads Any B (load_spelled w d) inner
    → Reads (Stops (begins switch_word)) (MaybeSwitch w B) (maybe_switch_spelled w d) (maybe_switch_at w inner)
unfolding maybe_switch_at
maybe_switch_reads w d B inner r =
    known_reads (switch_there w B) (switch_back w B) (λ o h. refl)
    (choose_reads (begins switch_word) (is_switch w d B) (not_switch w d)
    (weaken_reads (made_reads Some (maybe_switch_spelled w d) (λ x h. refl) (load_switch_reads w d B inner r)))
    (weaken_reads (known_reads (λ o h. h) (λ o h. h) (no_switch_spelled w d) (found_reads None))))

-- a block whose cases have blocks with B
return_no_switch : (rest : List Token) → Stops (begins switch_word) (return_insn_spelled ++ rest)
unfolding begins after
return_no_switch rest = refl

abbrev Parts : Type 0
Parts = Option (ℕ × ℕ) × Option (ℕ × List (ℕ × LoadBlock))

abbrev end_spelled : Width → Name → Option (ℕ × List (ℕ × LoadBlock)) → List Token
end_spelled w d o = maybe_switch_spelled w d o ++ return_insn_spelled

end_no_bytes : (w : Width) (d : Name) (o : Option (ℕ × List (ℕ × LoadBlock))) (rest : List Token)
    → Stops (begins insn_word) (end_spelled w d o ++ rest)
unfolding begins after
end_no_bytes w d None rest = refl
end_no_bytes w d (Some x) rest = refl

abbrev BlockParts : Width → (LoadBlock → Type 0) → Parts → Type 0
BlockParts w B x = BytesFit x.0 × MaybeSwitch w B x.1

load_block_reads : (w : Width) (d : Name) (B : LoadBlock → Type 0) (inner : Parse LoadBlock)
    → Reads Any B (load_spelled w d) inner
    → Reads Any (Made block_of (BlockParts w B)) (load_spelled w d) (load_block_at w d inner)
unfolding load_block_at
load_block_reads w d B inner r =
    made_reads block_of (load_spelled w d) (λ x h. refl)
    (both_reads (λ y rest h k. end_no_bytes w d y rest) (maybe_bytes_reads d)
    (closed_reads return_insn_spelled return_no_switch (maybe_switch_reads w d B inner r)))

-- nested less deep than the number
abbrev Inside : Width → ℕ → LoadBlock → Type 0
Inside w zero b = ⊥
Inside w (suc braces) b = Made block_of (BlockParts w (Inside w braces)) b

load_inner_reads : (w : Width) (d : Name) (braces : ℕ)
    → Reads Any (Inside w braces) (load_spelled w d) (load_inner_at w d braces)
unfolding load_inner_at
load_inner_reads w d zero = nothing_reads (load_spelled w d)
load_inner_reads w d (suc braces) =
    load_block_reads w d (Inside w braces) (load_inner_at w d braces) (load_inner_reads w d braces)

within_reads : (w : Width) (d : Name) (braces : ℕ)
    → Reads Any (Made block_of (BlockParts w (Inside w braces))) (load_spelled w d) (load_at w d braces)
unfolding load_at
within_reads w d braces =
    load_block_reads w d (Inside w braces) (load_inner_at w d braces) (load_inner_reads w d braces)

-- the rules of a load block
pub record LoadKeeps (w : Width) (braces : ℕ) (b : LoadBlock) : Type 0 where
  pub fits : LoadFits b
  pub below : LoadBelow (2 ^ width_bits w) b
  pub cases : LoadHasCases b
  pub within : LoadWithin braces b

record CasesKept (w : Width) (braces : ℕ) (cs : LoadCases) : Type 0 where
  fits : LoadCasesFit cs
  below : LoadCasesBelow (2 ^ width_bits w) cs
  cases : LoadCasesHaveCases cs
  within : LoadCasesWithin braces cs

record SwitchKept (w : Width) (braces : ℕ) (s : LoadSwitch) : Type 0 where
  fits : LoadSwitchFits s
  below : LoadSwitchBelow (2 ^ width_bits w) s
  cases : LoadSwitchHasCases s
  within : LoadSwitchWithin braces s

-- cases as the list that they are read as
abbrev CasesRead : Width → ℕ → LoadCases → Type 0
CasesRead w braces cs =
    (l : List (ℕ × LoadBlock)) × (load_cases_from l ≡ cs) × AllByRecursion (LoadCaseWith w (Inside w braces)) l

abbrev SwitchRead : Width → ℕ → LoadSwitch → Type 0
SwitchRead w braces s =
    (o : Option (ℕ × List (ℕ × LoadBlock))) × (load_switch_from o ≡ s) × MaybeSwitch w (Inside w braces) o

some_read : (l : List (ℕ × LoadBlock)) (cs : LoadCases) → load_cases_from l ≡ cs → IsSomeLoadCase cs → has_item l ≡ true
some_read [] cs e h = absurd (subst IsSomeLoadCase (sym e) h)
some_read (c ∷ l) cs e h = refl

mutual
  kept_block : (w : Width) (braces : ℕ) (b : LoadBlock) → LoadKeeps w braces b
      → Made block_of (BlockParts w (Inside w braces)) b
  kept_block w braces (load_block bytes more) h =
      let s = kept_switch w braces more (record {
        fits = h.fits.1;
        below = h.below;
        cases = h.cases;
        within = h.within;
      }) in
      ((bytes, s.0), (h.fits.0, s.2), ap (load_block bytes) s.1)

  kept_switch : (w : Width) (braces : ℕ) (s : LoadSwitch) → SwitchKept w braces s → SwitchRead w braces s
  kept_switch w braces no_switch h = (None, refl, tt)
  kept_switch w zero (load_switch m cs) h = absurd h.within
  kept_switch w (suc braces) (load_switch m cs) h =
      let l = kept_cases w braces cs (record {
        fits = h.fits;
        below = h.below.1;
        cases = h.cases.1;
        within = h.within;
      }) in
      (Some (m, l.0), ap (load_switch m) l.1, (h.below.0, (l.2, some_read l.0 cs l.1 h.cases.0)))

  kept_cases : (w : Width) (braces : ℕ) (cs : LoadCases) → CasesKept w braces cs → CasesRead w (suc braces) cs
  kept_cases w braces no_load_case h = ([], refl, tt)
  kept_cases w braces (or_load_case v b cs) h =
      let k = kept_block w braces b (record {
        fits = h.fits.0;
        below = h.below.1;
        cases = h.cases.0;
        within = h.within.0;
      }) in
      let l = kept_cases w braces cs (record {
        fits = h.fits.1;
        below = h.below.2;
        cases = h.cases.1;
        within = h.within.1;
      }) in
      ((v, b) ∷ l.0, ap (or_load_case v b) l.1, ((h.below.0, k), l.2))

some_kept : (l : List (ℕ × LoadBlock)) → has_item l ≡ true → IsSomeLoadCase (load_cases_from l)
some_kept [] h = absurd cc
some_kept (c ∷ l) h = tt

no_cases : (w : Width) (l : List (ℕ × LoadBlock)) → has_item l ≡ true
    → AllByRecursion (LoadCaseWith w (Inside w zero)) l → ⊥
no_cases w [] e h = let k : false ≡ true = e in cc
no_cases w (c ∷ l) e h = h.0.1

-- what the blocks inside are known to keep, all keep
abbrev BlockIsKept : Width → ℕ → Type 0
BlockIsKept w braces = (b : LoadBlock) → Inside w (suc braces) b → LoadKeeps w braces b

cases_kept : (w : Width) (braces : ℕ) (l : List (ℕ × LoadBlock)) → BlockIsKept w braces
    → AllByRecursion (LoadCaseWith w (Inside w (suc braces))) l → CasesKept w braces (load_cases_from l)
cases_kept w braces [] each h = record { fits = tt; below = tt; cases = tt; within = tt }
cases_kept w braces (c ∷ l) each h =
    let k = each c.1 h.0.1 in
    let more = cases_kept w braces l each h.1 in
    record {
      fits = (k.fits, more.fits);
      below = (h.0.0, k.below, more.below);
      cases = (k.cases, more.cases);
      within = (k.within, more.within);
    }

switch_kept : (w : Width) (braces : ℕ) (x : ℕ × List (ℕ × LoadBlock)) → BlockIsKept w braces
    → LoadSwitches w (Inside w (suc braces)) x → SwitchKept w (suc braces) (load_switch_from (Some x))
switch_kept w braces x each h =
    let k = cases_kept w braces x.1 each h.1.0 in
    record { fits = k.fits; below = (h.0, k.below); cases = (some_kept x.1 h.1.1, k.cases); within = k.within }

parts_kept : (w : Width) (braces : ℕ) (bytes : Option (ℕ × ℕ)) (s : LoadSwitch) → BytesFit bytes → SwitchKept w braces s
    → LoadKeeps w braces (load_block bytes s)
parts_kept w braces bytes s h k =
    record { fits = (h, k.fits); below = k.below; cases = k.cases; within = k.within }

none_kept : (w : Width) (braces : ℕ) → SwitchKept w braces no_switch
none_kept w braces = record { fits = tt; below = tt; cases = tt; within = tt }

block_kept : (w : Width) (braces : ℕ) (b : LoadBlock) → Made block_of (BlockParts w (Inside w braces)) b
    → LoadKeeps w braces b
block_kept w zero b ((bytes, None), h, e) =
    subst (LoadKeeps w zero) e (parts_kept w zero bytes no_switch h.0 (none_kept w zero))
block_kept w zero b ((bytes, Some x), h, e) = absurd (no_cases w x.1 h.1.1.1 h.1.1.0)
block_kept w (suc braces) b ((bytes, None), h, e) =
    subst (LoadKeeps w (suc braces)) e (parts_kept w (suc braces) bytes no_switch h.0 (none_kept w (suc braces)))
block_kept w (suc braces) b ((bytes, Some x), h, e) =
    subst (LoadKeeps w (suc braces)) e
    (parts_kept w (suc braces) bytes (load_switch_from (Some x)) h.0
    (switch_kept w braces x (block_kept w braces) h.1))

pub load_reads : (w : Width) (d : Name) (braces : ℕ)
    → Reads Any (LoadKeeps w braces) (load_spelled w d) (load_at w d braces)
load_reads w d braces =
    known_reads (kept_block w braces) (block_kept w braces) (λ b h. refl) (within_reads w d braces)

-- the whole function
abbrev pub Ends : List Token → Type 0
Ends rest = rest ≡ []

function_same : (w : Width) (d : Name) (is_static : Bool) (braces : ℕ) (b : LoadBlock) → LoadKeeps w braces b
    → load_function_spelled w d is_static (Some b)
    ≡ load_type w is_static ++ (load_word d ++ (load_open ++ (insn_zero w ++ (load_spelled w d b ++ block_end))))
function_same w d true braces b h = refl
function_same w d false braces b h = refl

some_load_reads : (w : Width) (d : Name) (is_static : Bool) (braces : ℕ)
    → Reads Any (LoadKeeps w braces) (λ b. load_function_spelled w d is_static (Some b))
    (some_load_at w d is_static braces)
unfolding some_load_at
some_load_reads w d is_static braces =
    known_reads (λ b h. h) (λ b h. h) (function_same w d is_static braces)
    (behind_reads (load_type w is_static) (behind_reads (load_word d) (behind_reads load_open
    (behind_reads (insn_zero w) (closed_reads block_end (λ rest. tt) (load_reads w d braces))))))

abbrev IsNone : Option LoadBlock → Type 0
IsNone l = l ≡ None

function_there : (w : Width) (braces : ℕ) (l : Option LoadBlock) → IfSome l (LoadKeeps w braces)
    → IsNone l ⊎ Made Some (LoadKeeps w braces) l
function_there w braces None h = inl refl
function_there w braces (Some b) h = inr (b, h, refl)

function_back : (w : Width) (braces : ℕ) (l : Option LoadBlock) → IsNone l ⊎ Made Some (LoadKeeps w braces) l
    → IfSome l (LoadKeeps w braces)
function_back w braces l (inl h) = subst (λ x. IfSome x (LoadKeeps w braces)) (sym h) tt
function_back w braces l (inr h) = subst (λ x. IfSome x (LoadKeeps w braces)) h.2 h.1

abbrev IsNothing : Width → Name → Bool → List Token → Bool → Option LoadBlock → Type 0
IsNothing w d is_static rest b l = is_nothing (load_function_spelled w d is_static l ++ rest) ≡ b

none_nothing : (w : Width) (d : Name) (is_static : Bool) (l : Option LoadBlock) (rest : List Token) → IsNone l
    → Ends rest → IsNothing w d is_static rest true l
none_nothing w d is_static l rest h k =
    subst (IsNothing w d is_static rest true) (sym h) (ap is_nothing k)

some_nothing : (w : Width) (d : Name) (is_static : Bool) (b : LoadBlock) (rest : List Token)
    → IsNothing w d is_static rest false (Some b)
some_nothing w d true b rest = refl
some_nothing w d false b rest = refl

no_function_spelled : (w : Width) (d : Name) (is_static : Bool) (l : Option LoadBlock) → IsNone l
    → load_function_spelled w d is_static l ≡ []
no_function_spelled w d is_static l h = subst (λ x. load_function_spelled w d is_static x ≡ []) (sym h) refl

pub load_function_reads : (w : Width) (d : Name) (is_static : Bool) (braces : ℕ)
    → Reads Ends (λ l. IfSome l (LoadKeeps w braces)) (load_function_spelled w d is_static)
    (load_function_at w d is_static braces)
unfolding load_function_at
load_function_reads w d is_static braces =
    known_reads (function_there w braces) (function_back w braces) (λ l h. refl)
    (choose_reads is_nothing (none_nothing w d is_static)
    (λ l rest h k. subst (IsNothing w d is_static rest false) h.2 (some_nothing w d is_static h.0 rest))
    (weaken_reads (known_reads (λ l h. h) (λ l h. h) (no_function_spelled w d is_static) (found_reads None)))
    (weaken_reads (made_reads Some (load_function_spelled w d is_static) (λ b h. refl)
    (some_load_reads w d is_static braces))))

-- each case takes a token
pub load_case_shorter : (w : Width) (d : Name) (braces : ℕ) (ts : List Token) (x : ℕ × LoadBlock) (rest : List Token)
    → load_case_at w (load_inner_at w d braces) ts ≡ Some (x, rest) → length rest < length ts
load_case_shorter w d braces ts x rest e =
    let r = load_case_reads w d (Inside w braces) (load_inner_at w d braces) (load_inner_reads w d braces) in
    let s = r.sound ts x rest e in
    omega (arith, ap length s.1, length-append (one_load_case w d x) rest)
