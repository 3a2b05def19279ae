-- A program that nests no deeper than the limit has no too deep token.
use Rattle.std.proofs.Common.{◌≡◌, ℕ, zero, suc, ◌<◌, ◌≤◌, ◌+◌, ◌-◌, List, [], ◌∷◌, ◌++◌, length, Bool, true, false}
use Rattle.std.proofs.Common.{ℤ, pos, negsuc, Option, Some, None, not, ◌&&◌, ◌==◌, refl, sym, ap, subst, arith, lit≤}
use Rattle.std.proofs.Common.{cond, length-append}
use Rattle.std.specs.Prelude.{flat_map, codes, decimal, IfSome, IsTrue}
use Rattle.dt_values.specs.declared.width.Width.{Width}
use Rattle.dt_values.specs.declared.set.SetDef.{SetDef}
use Rattle.c_exprs.specs.Exprs.{Source, insn, argument, Term, constant, segment, deposit, cast, function, applied}
use Rattle.c_exprs.specs.Spelling.{helper_digits, extract_word, argument_spelled, source_spelled, constant_spelled}
use Rattle.c_exprs.specs.Spelling.{expr_spelled, assign_spelled, assignment_spelled}
use Rattle.c_tokens.specs.Depth.{most_open, open_after, open_behind, IsTooDeep}
use Rattle.c_tokens.specs.Marks.{open_round, close_round, open_brace, close_brace, semicolon, comma, equals, arg_}
use Rattle.c_tokens.specs.Tokens.{Token, word, mark, double_equals, arrow}
use Rattle.c_tokens.proofs.Bytes.{both_true}
use Rattle.c_subset.specs.Programs.{Name, Stmt, on_mask, switch, extract, assign, call, Stmts, done, then, Cases}
use Rattle.c_subset.specs.Programs.{no_case, or_case, LoadBlock, load_block, LoadSwitch, no_switch, load_switch}
use Rattle.c_subset.specs.Programs.{LoadCases, no_load_case, or_load_case, Pattern, Extraction, Prefix, Program}
use Rattle.c_subset.specs.Programs.{prefix_of, word_type, context_parameter, static_spelled}
use Rattle.c_subset.specs.Programs.{member_spelled, set_spelled, prototype_spelled, pattern_spelled}
use Rattle.c_subset.specs.Programs.{extract_head_spelled, extract_spelled, if_spelled, switch_spelled, case_spelled}
use Rattle.c_subset.specs.Programs.{break_spelled, extract_call_spelled, call_spelled, stmt_spelled, stmts_spelled}
use Rattle.c_subset.specs.Programs.{cases_spelled, union_set_spelled, union_spelled, decoder_head_spelled}
use Rattle.c_subset.specs.Programs.{decoder_end_spelled, load_bytes_spelled, return_insn_spelled, load_spelled}
use Rattle.c_subset.specs.Programs.{load_switch_spelled, load_cases_spelled, load_head_spelled}
use Rattle.c_subset.specs.Programs.{load_function_spelled, decoder_spelled, spelling}
use Rattle.c_subset.specs.Nesting.{StmtWithin, StmtsWithin, CasesWithin, LoadWithin, LoadSwitchWithin, LoadCasesWithin}
use Rattle.c_subset.proofs.Braces.{Closes, one_less, closes_each, argument_closes, source_closes, expr_closes}
use Rattle.c_subset.proofs.Braces.{assign_closes, member_closes, set_closes, static_closes, pattern_closes}
use Rattle.c_subset.proofs.Braces.{extract_closes, union_closes, stmt_closes, stmts_close, cases_close, bytes_close}
use Rattle.c_subset.proofs.Braces.{load_closes, load_switch_closes, load_cases_close, decoder_opens, load_opens}

-- with so many braces open in front of the tokens, each stands inside few enough
abbrev AreFew : ℕ → List Token → Type 0
AreFew n [] = Unit {0}
AreFew n (t ∷ ts) = (n ≤ most_open) × AreFew (open_after n t) ts

few_both : (n : ℕ) (ts us : List Token) → AreFew n ts → AreFew (open_behind n ts) us → AreFew n (ts ++ us)
few_both n [] us h k = k
few_both n (t ∷ ts) us h k = (h.0, few_both (open_after n t) ts us h.1 k)

same_first : (t x : Token) (ts us : List Token) → t ∷ ts ≡ x ∷ us → (x ≡ t) × (ts ≡ us)
same_first t x ts us e = ((cc), (cc))

none_deep : (n : ℕ) (ts front : List Token) (t : Token) (rest : List Token) → ts ≡ front ++ (t ∷ rest) → AreFew n ts
    → most_open < open_behind n front → ⊥
none_deep n [] front t rest e h inside = omega (arith, ap length e, length-append front (t ∷ rest))
none_deep n (x ∷ xs) [] t rest e h inside = omega (arith, h.0, inside)
none_deep n (x ∷ xs) (y ∷ front) t rest e h inside =
    let same = same_first x y xs (front ++ (t ∷ rest)) e in
    none_deep (open_after n x) xs front t rest same.1 h.1
    (subst (λ u. most_open < open_behind (open_after n u) front) same.0 inside)

-- the tokens open at most so many braces more
abbrev Few : ℕ → List Token → Type 0
Few k ts = (n : ℕ) → n + k ≤ most_open → AreFew n ts

few_then : (k : ℕ) (ts us : List Token) → Closes ts → Few k ts → Few k us → Few k (ts ++ us)
few_then k ts us closes h g n l =
    few_both n ts us (h n l) (subst (λ m. AreFew m us) (sym (closes n)) (g n l))

few_each : {A : Type 0} (k : ℕ) (spelled : A → List Token) → ((x : A) → Closes (spelled x))
    → ((x : A) → Few k (spelled x)) → (xs : List A) → Few k (flat_map spelled xs)
few_each k spelled closes few [] n l = tt
few_each k spelled closes few (x ∷ xs) n l =
    few_then k (spelled x) (flat_map spelled xs) (closes x) (few x) (few_each k spelled closes few xs) n l

few_more : (j k : ℕ) (ts : List Token) → j ≤ k → Few j ts → Few k ts
few_more j k ts m h n l = h n (omega (arith, m, l))

-- fixed tokens, of which the last alone may be a brace
abbrev is_plain : Token → Bool
is_plain (mark b) = not (b == 123) && not (b == 125)
is_plain (word w) = true
is_plain double_equals = true
is_plain arrow = true

abbrev is_run : List Token → Bool
is_run [] = true
is_run (t ∷ []) = true
is_run (t ∷ (u ∷ ts)) = is_plain t && is_run (u ∷ ts)

by_bools : (n : ℕ) (a b : Bool) → IsTrue (not a && not b) → cond a (n + 1) (cond b (n - 1) n) ≡ n
by_bools n true b h = absurd (cc)
by_bools n false true h = absurd (cc)
by_bools n false false h = refl

plain_keeps : (n : ℕ) (t : Token) → IsTrue (is_plain t) → open_after n t ≡ n
plain_keeps n (mark b) h = by_bools n (b == 123) (b == 125) h
plain_keeps n (word w) h = refl
plain_keeps n double_equals h = refl
plain_keeps n arrow h = refl

few_run : (n : ℕ) (ts : List Token) → n ≤ most_open → IsTrue (is_run ts) → AreFew n ts
few_run n [] l h = tt
few_run n (t ∷ []) l h = (l, tt)
few_run n (t ∷ (u ∷ ts)) l h =
    let both = both_true (is_plain t) (is_run (u ∷ ts)) h in
    (l, subst (λ m. AreFew m (u ∷ ts)) (sym (plain_keeps n t both.0)) (few_run n (u ∷ ts) l both.1))

fixed : (k : ℕ) (ts : List Token) → IsTrue (is_run ts) → Few k ts
fixed k ts h n l = few_run n ts (omega (arith, l)) h

-- what opens a brace, what stands behind it, and what closes it
few_block : (k : ℕ) (head ts tail : List Token) → ((n : ℕ) → open_behind n head ≡ n + 1) → IsTrue (is_run head)
    → Closes ts → Few k ts → IsTrue (is_run tail) → Few (suc k) (head ++ (ts ++ close_brace ∷ tail))
few_block k head ts tail opens run closes few ends n l =
    let last : n + 1 ≤ most_open = omega (arith, l) in
    let behind = subst (λ m. AreFew m tail) (sym (one_less n)) (few_run n tail (omega (arith, l)) ends) in
    let inner = few_both (n + 1) ts (close_brace ∷ tail) (few (n + 1) (omega (arith, l)))
    (subst (λ m. AreFew m (close_brace ∷ tail)) (sym (closes (n + 1))) (last, behind)) in
    few_both n head (ts ++ close_brace ∷ tail) (few_run n head (omega (arith, l)) run)
    (subst (λ m. AreFew m (ts ++ close_brace ∷ tail)) (sym (opens n)) inner)

argument_few : (set : Option Name) (name : Name) → Few 0 (argument_spelled set name)
argument_few None name = fixed 0 (argument_spelled None name) refl
argument_few (Some set) name = fixed 0 (argument_spelled (Some set) name) refl

source_few : (s : Source) → Few 0 (source_spelled s)
source_few insn = fixed 0 (source_spelled insn) refl
source_few (argument set name) = argument_few set name

constant_few : (z : ℤ) → Few 0 (constant_spelled z)
constant_few (pos v) = fixed 0 (constant_spelled (pos v)) refl
constant_few (negsuc v) = fixed 0 (constant_spelled (negsuc v)) refl

expr_few : (w : Width) (e : Term) → Few 0 (expr_spelled w e)
expr_few w (constant z) = constant_few z
expr_few w (segment signed from place len) =
    let head : List Token = word (extract_word signed ++ helper_digits w) ∷ open_round ∷ [] in
    let tail : List Token = comma ∷ word (decimal place) ∷ comma ∷ word (decimal len) ∷ close_round ∷ [] in
    few_then 0 head (source_spelled from ++ tail) (λ n. refl) (fixed 0 head refl)
    (few_then 0 (source_spelled from) tail (source_closes from) (source_few from) (fixed 0 tail refl))
expr_few w (deposit into place len part) =
    let head : List Token = word (codes "deposit" ++ helper_digits w) ∷ open_round ∷ [] in
    let between : List Token = comma ∷ word (decimal place) ∷ comma ∷ word (decimal len) ∷ comma ∷ [] in
    let tail = expr_spelled w part ++ close_round ∷ [] in
    few_then 0 head (expr_spelled w into ++ (between ++ tail)) (λ n. refl) (fixed 0 head refl)
    (few_then 0 (expr_spelled w into) (between ++ tail) (expr_closes w into) (expr_few w into)
    (few_then 0 between tail (λ n. refl) (fixed 0 between refl)
    (few_then 0 (expr_spelled w part) (close_round ∷ []) (expr_closes w part) (expr_few w part)
    (fixed 0 (close_round ∷ []) refl))))
expr_few w (cast e) =
    let head : List Token = open_round ∷ word (codes "int" ++ (helper_digits w ++ codes "_t")) ∷ close_round ∷ [] in
    few_then 0 head (expr_spelled w e) (λ n. refl) (fixed 0 head refl) (expr_few w e)
expr_few w (function name) = fixed 0 (expr_spelled w (function name)) refl
expr_few w (applied name e) =
    let head : List Token = word name ∷ open_round ∷ word (codes "ctx") ∷ comma ∷ [] in
    few_then 0 head (expr_spelled w e ++ close_round ∷ []) (λ n. refl) (fixed 0 head refl)
    (few_then 0 (expr_spelled w e) (close_round ∷ []) (expr_closes w e) (expr_few w e)
    (fixed 0 (close_round ∷ []) refl))

assign_few : (w : Width) (set : Option Name) (name : Name) (e : Term) → Few 0 (assign_spelled w set name e)
assign_few w set name e =
    let tail = expr_spelled w e ++ semicolon ∷ [] in
    few_then 0 (argument_spelled set name) (equals ∷ tail) (argument_closes set name) (argument_few set name)
    (few_then 0 (equals ∷ []) tail (λ n. refl) (fixed 0 (equals ∷ []) refl)
    (few_then 0 (expr_spelled w e) (semicolon ∷ []) (expr_closes w e) (expr_few w e) (fixed 0 (semicolon ∷ []) refl)))

set_few : (s : SetDef) → Few 1 (set_spelled s)
set_few s =
    let head : List Token = word (codes "typedef") ∷ word (codes "struct") ∷ open_brace ∷ [] in
    few_block 0 head (flat_map member_spelled s.members) (arg_ s.name ∷ semicolon ∷ []) (λ n. refl) refl
    (closes_each member_spelled member_closes s.members)
    (few_each 0 member_spelled member_closes (λ m. fixed 0 (member_spelled m) refl) s.members) refl

static_few : (is_static : Bool) → Few 0 (static_spelled is_static)
static_few true = fixed 0 (static_spelled true) refl
static_few false = fixed 0 (static_spelled false) refl

pattern_few : (prefix : Prefix) (p : Pattern) → Few 1 (pattern_spelled prefix p)
pattern_few prefix p =
    let head : List Token = word (codes "typedef") ∷ arg_ p.set ∷ arg_ p.name ∷ semicolon ∷ [] in
    let tail = prototype_spelled prefix.name p.name in
    few_then 1 head (static_spelled prefix.is_static ++ tail) (λ n. refl) (fixed 1 head refl)
    (few_then 1 (static_spelled prefix.is_static) tail (static_closes prefix.is_static)
    (few_more 0 1 (static_spelled prefix.is_static) (omega arith) (static_few prefix.is_static)) (fixed 1 tail refl))

extract_few : (w : Width) (d : Name) (e : Extraction) → Few 1 (extract_spelled w d e)
extract_few w d e =
    few_block 0 (extract_head_spelled w d e.format e.set) (flat_map (assignment_spelled w) e.assigns) [] (λ n. refl)
    refl
    (closes_each (assignment_spelled w) (λ a. assign_closes w None a.argument a.value) e.assigns)
    (few_each 0 (assignment_spelled w) (λ a. assign_closes w None a.argument a.value)
    (λ a. assign_few w None a.argument a.value) e.assigns) refl

union_few : (patterns : List Pattern) (sets : List Name) → Few 1 (union_spelled patterns sets)
union_few [] sets = fixed 1 [] refl
union_few (p ∷ ps) sets =
    few_block 0 (word (codes "union") ∷ open_brace ∷ []) (flat_map union_set_spelled sets)
    (word (codes "u") ∷ semicolon ∷ []) (λ n. refl) refl (closes_each union_set_spelled (λ s n. refl) sets)
    (few_each 0 union_set_spelled (λ s n. refl) (λ s. fixed 0 (union_set_spelled s) refl) sets) refl

mutual
  stmt_few : (w : Width) (d p : Name) (k : ℕ) (s : Stmt) → StmtWithin k s → Few k (stmt_spelled w d p s)
  stmt_few w d p zero (on_mask m v ss) h = absurd h
  stmt_few w d p (suc k) (on_mask m v ss) h =
      few_block k (if_spelled w m v) (stmts_spelled w d p ss) [] (λ n. refl) refl (stmts_close w d p ss)
      (stmts_few w d p k ss h) refl
  stmt_few w d p zero (switch m cs) h = absurd h
  stmt_few w d p (suc k) (switch m cs) h =
      few_block k (switch_spelled w m) (cases_spelled w d p cs) [] (λ n. refl) refl (cases_close w d p cs)
      (cases_few w d p k cs h) refl
  stmt_few w d p k (extract x s) h = fixed k (extract_call_spelled d x s) refl
  stmt_few w d p k (assign s a e) h =
      few_more 0 k (assign_spelled w (Some s) a e) (omega arith) (assign_few w (Some s) a e)
  stmt_few w d p k (call m s) h = fixed k (call_spelled p m s) refl

  stmts_few : (w : Width) (d p : Name) (k : ℕ) (ss : Stmts) → StmtsWithin k ss → Few k (stmts_spelled w d p ss)
  stmts_few w d p k done h = fixed k [] refl
  stmts_few w d p k (then s ss) h =
      few_then k (stmt_spelled w d p s) (stmts_spelled w d p ss) (stmt_closes w d p s) (stmt_few w d p k s h.0)
      (stmts_few w d p k ss h.1)

  cases_few : (w : Width) (d p : Name) (k : ℕ) (cs : Cases) → CasesWithin k cs → Few k (cases_spelled w d p cs)
  cases_few w d p k no_case h = fixed k [] refl
  cases_few w d p k (or_case v ss cs) h =
      let body = stmts_spelled w d p ss in
      let more = break_spelled ++ cases_spelled w d p cs in
      few_then k (case_spelled w v) (body ++ more) (λ n. refl) (fixed k (case_spelled w v) refl)
      (few_then k body more (stmts_close w d p ss) (stmts_few w d p k ss h.0)
      (few_then k break_spelled (cases_spelled w d p cs) (λ n. refl) (fixed k break_spelled refl)
      (cases_few w d p k cs h.1)))

bytes_few : (k : ℕ) (d : Name) (bytes : Option (ℕ × ℕ)) → Few k (load_bytes_spelled d bytes)
bytes_few k d None = fixed k [] refl
bytes_few k d (Some bytes) = fixed k (load_bytes_spelled d (Some bytes)) refl

mutual
  load_few : (w : Width) (d : Name) (k : ℕ) (b : LoadBlock) → LoadWithin k b → Few k (load_spelled w d b)
  load_few w d k (load_block bytes more) h =
      few_then k (load_bytes_spelled d bytes) (load_switch_spelled w d more ++ return_insn_spelled)
      (bytes_close d bytes) (bytes_few k d bytes)
      (few_then k (load_switch_spelled w d more) return_insn_spelled (load_switch_closes w d more)
      (load_switch_few w d k more h) (fixed k return_insn_spelled refl))

  load_switch_few : (w : Width) (d : Name) (k : ℕ) (more : LoadSwitch) → LoadSwitchWithin k more
      → Few k (load_switch_spelled w d more)
  load_switch_few w d k no_switch h = fixed k [] refl
  load_switch_few w d zero (load_switch m cs) h = absurd h
  load_switch_few w d (suc k) (load_switch m cs) h =
      few_block k (switch_spelled w m) (load_cases_spelled w d cs) [] (λ n. refl) refl (load_cases_close w d cs)
      (load_cases_few w d k cs h) refl

  load_cases_few : (w : Width) (d : Name) (k : ℕ) (cs : LoadCases) → LoadCasesWithin k cs
      → Few k (load_cases_spelled w d cs)
  load_cases_few w d k no_load_case h = fixed k [] refl
  load_cases_few w d k (or_load_case v b cs) h =
      few_then k (case_spelled w v) (load_spelled w d b ++ load_cases_spelled w d cs) (λ n. refl)
      (fixed k (case_spelled w v) refl)
      (few_then k (load_spelled w d b) (load_cases_spelled w d cs) (load_closes w d b) (load_few w d k b h.0)
      (load_cases_few w d k cs h.1))

decoder_head_few : (w : Width) (d : Name) (is_static : Bool) → AreFew 0 (decoder_head_spelled w d is_static)
decoder_head_few w d true = few_run 0 (decoder_head_spelled w d true) (lit≤ tt) refl
decoder_head_few w d false = few_run 0 (decoder_head_spelled w d false) (lit≤ tt) refl

load_head_few : (w : Width) (d : Name) (is_static : Bool) → AreFew 0 (load_head_spelled w d is_static)
load_head_few w d is_static =
    let head : List Token = word (word_type w) ∷ word (d ++ codes "_load")
    ∷ context_parameter (close_round ∷ open_brace ∷ []) in
    let tail : List Token = word (word_type w) ∷ word (codes "insn") ∷ equals ∷ word (codes "0") ∷ semicolon ∷ [] in
    few_both 0 (static_spelled is_static) (head ++ tail) (static_few is_static 0 (lit≤ tt))
    (subst (λ m. AreFew m (head ++ tail)) (sym (static_closes is_static 0))
    (few_both 0 head tail (few_run 0 head (lit≤ tt) refl) (few_run 1 tail (lit≤ tt) refl)))

load_function_few : (p : Program) (load : Option LoadBlock) → IfSome load (LoadWithin 127)
    → AreFew 0 (load_function_spelled p.width p.decoder p.decoder_static load)
load_function_few p None h = tt
load_function_few p (Some block) h =
    let head = load_head_spelled p.width p.decoder p.decoder_static in
    let body = load_spelled p.width p.decoder block in
    let last = subst (λ m. AreFew m (close_brace ∷ [])) (sym (load_closes p.width p.decoder block 1)) (lit≤ tt, tt) in
    let inside = few_both 1 body (close_brace ∷ []) (load_few p.width p.decoder 127 block h 1 (lit≤ tt)) last in
    few_both 0 head (body ++ close_brace ∷ []) (load_head_few p.width p.decoder p.decoder_static)
    (subst (λ m. AreFew m (body ++ close_brace ∷ [])) (sym (load_opens p.width p.decoder p.decoder_static 0)) inside)

decoder_few : (p : Program) → StmtsWithin 127 p.body → IfSome p.load (LoadWithin 127) → AreFew 0 (decoder_spelled p)
decoder_few p b h =
    let prefix = (prefix_of p.prefix).name in
    let load = load_function_spelled p.width p.decoder p.decoder_static p.load in
    let body = stmts_spelled p.width p.decoder prefix p.body in
    let union = union_spelled p.patterns p.union_sets in
    let ends = decoder_end_spelled ++ load in
    let head = decoder_head_spelled p.width p.decoder p.decoder_static in
    let last = few_both 1 decoder_end_spelled load (few_run 1 decoder_end_spelled (lit≤ tt) refl)
    (load_function_few p p.load h) in
    let third = few_both 1 body ends (stmts_few p.width p.decoder prefix 127 p.body b 1 (lit≤ tt))
    (subst (λ m. AreFew m ends) (sym (stmts_close p.width p.decoder prefix p.body 1)) last) in
    let second = few_both 1 union (body ++ ends) (union_few p.patterns p.union_sets 1 (lit≤ tt))
    (subst (λ m. AreFew m (body ++ ends)) (sym (union_closes p.patterns p.union_sets 1)) third) in
    few_both 0 head (union ++ (body ++ ends)) (decoder_head_few p.width p.decoder p.decoder_static)
    (subst (λ m. AreFew m (union ++ (body ++ ends))) (sym (decoder_opens p.width p.decoder p.decoder_static 0)) second)

spelling_few : (p : Program) → StmtsWithin 127 p.body → IfSome p.load (LoadWithin 127) → AreFew 0 (spelling p)
unfolding spelling
spelling_few p b h =
    let prefix = prefix_of p.prefix in
    let extracts = flat_map (extract_spelled p.width p.decoder) p.extracts in
    let extracts_close =
    closes_each (extract_spelled p.width p.decoder) (extract_closes p.width p.decoder) p.extracts in
    let patterns = flat_map (pattern_spelled prefix) p.patterns in
    let patterns_close = closes_each (pattern_spelled prefix) (pattern_closes prefix) p.patterns in
    let sets = flat_map set_spelled p.sets in
    let third = few_both 0 extracts (decoder_spelled p)
    (few_each 1 (extract_spelled p.width p.decoder) (extract_closes p.width p.decoder)
    (extract_few p.width p.decoder) p.extracts 0 (lit≤ tt))
    (subst (λ m. AreFew m (decoder_spelled p)) (sym (extracts_close 0)) (decoder_few p b h)) in
    let second = few_both 0 patterns (extracts ++ decoder_spelled p)
    (few_each 1 (pattern_spelled prefix) (pattern_closes prefix) (pattern_few prefix) p.patterns 0 (lit≤ tt))
    (subst (λ m. AreFew m (extracts ++ decoder_spelled p)) (sym (patterns_close 0)) third) in
    few_both 0 sets (patterns ++ (extracts ++ decoder_spelled p))
    (few_each 1 set_spelled set_closes set_few p.sets 0 (lit≤ tt))
    (subst (λ m. AreFew m (patterns ++ (extracts ++ decoder_spelled p)))
    (sym (closes_each set_spelled set_closes p.sets 0)) second)

-- the other way round of `shallow`
pub within_is_shallow : (p : Program) → StmtsWithin 127 p.body → IfSome p.load (LoadWithin 127)
    → ¬ IsTooDeep (spelling p)
within_is_shallow p b h = λ d. none_deep 0 (spelling p) d.front d.token d.rest d.splits (spelling_few p b h) d.inside
