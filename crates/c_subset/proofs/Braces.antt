-- Each part of a program closes the braces that it opens.
use Rattle.std.proofs.Common.{◌≡◌, ℕ, ◌+◌, ◌-◌, List, [], ◌∷◌, ◌++◌, Bool, true, false, ℤ, pos, negsuc, Option, Some}
use Rattle.std.proofs.Common.{None, refl, ap, ◌∙◌, arith}
use Rattle.std.specs.Prelude.{flat_map, codes, decimal}
use Rattle.dt_values.specs.declared.width.Width.{Width}
use Rattle.dt_values.specs.declared.ctype.Member.{Member}
use Rattle.dt_values.specs.declared.set.SetDef.{SetDef}
use Rattle.c_exprs.specs.Exprs.{Source, insn, argument, Term, constant, segment, deposit, cast, function, applied}
use Rattle.c_exprs.specs.Spelling.{argument_spelled, source_spelled, constant_spelled, expr_spelled, assign_spelled}
use Rattle.c_exprs.specs.Spelling.{assignment_spelled}
use Rattle.c_tokens.specs.Depth.{open_after, open_behind}
use Rattle.c_tokens.specs.Marks.{close_round, close_brace, semicolon, comma, equals, arg_}
use Rattle.c_tokens.specs.Tokens.{Token, word}
use Rattle.c_subset.specs.Programs.{Name, Stmt, on_mask, switch, extract, assign, call, Stmts, done, then, Cases}
use Rattle.c_subset.specs.Programs.{no_case, or_case, LoadBlock, load_block, LoadSwitch, no_switch, load_switch}
use Rattle.c_subset.specs.Programs.{LoadCases, no_load_case, or_load_case, Pattern, Extraction, Prefix}
use Rattle.c_subset.specs.Programs.{member_spelled, set_spelled, static_spelled, prototype_spelled, pattern_spelled}
use Rattle.c_subset.specs.Programs.{extract_spelled, break_spelled, stmt_spelled, stmts_spelled, cases_spelled}
use Rattle.c_subset.specs.Programs.{union_set_spelled, union_spelled, decoder_head_spelled, load_bytes_spelled}
use Rattle.c_subset.specs.Programs.{return_insn_spelled, load_spelled, load_switch_spelled, load_cases_spelled}
use Rattle.c_subset.specs.Programs.{load_head_spelled}

-- as many braces are open behind the tokens as in front of them
abbrev pub Closes : List Token → Type 0
Closes tokens = (n : ℕ) → open_behind n tokens ≡ n

pub behind_both : (n : ℕ) (ts us : List Token) → open_behind n (ts ++ us) ≡ open_behind (open_behind n ts) us
behind_both n [] us = refl
behind_both n (t ∷ ts) us = behind_both (open_after n t) ts us

pub closes_both : (ts us : List Token) → Closes ts → Closes us → Closes (ts ++ us)
closes_both ts us h k n = behind_both n ts us ∙ ap (λ m. open_behind m us) (h n) ∙ k n

pub closes_each : {A : Type 0} (spelled : A → List Token) → ((x : A) → Closes (spelled x)) → (xs : List A)
    → Closes (flat_map spelled xs)
closes_each spelled each [] n = refl
closes_each spelled each (x ∷ xs) n =
    closes_both (spelled x) (flat_map spelled xs) (each x) (closes_each spelled each xs) n

pub one_less : (n : ℕ) → (n + 1) - 1 ≡ n
one_less n = omega arith

-- what stands between two braces
closes_between : (n : ℕ) (ts : List Token) → Closes ts → open_behind (n + 1) (ts ++ close_brace ∷ []) ≡ n
closes_between n ts h = behind_both (n + 1) ts (close_brace ∷ []) ∙ ap (λ m. m - 1) (h (n + 1)) ∙ one_less n

-- expressions have no braces
pub argument_closes : (set : Option Name) (name : Name) → Closes (argument_spelled set name)
argument_closes None name n = refl
argument_closes (Some set) name n = refl

pub source_closes : (s : Source) → Closes (source_spelled s)
source_closes insn n = refl
source_closes (argument set name) n = argument_closes set name n

constant_closes : (z : ℤ) → Closes (constant_spelled z)
constant_closes (pos v) n = refl
constant_closes (negsuc v) n = refl

pub expr_closes : (w : Width) (e : Term) → Closes (expr_spelled w e)
expr_closes w (constant z) n = constant_closes z n
expr_closes w (segment signed from place length) n =
    closes_both (source_spelled from)
    (comma ∷ word (decimal place) ∷ comma ∷ word (decimal length) ∷ close_round ∷ [])
    (source_closes from) (λ m. refl) n
expr_closes w (deposit into place length part) n =
    let between : List Token = comma ∷ word (decimal place) ∷ comma ∷ word (decimal length) ∷ comma ∷ [] in
    closes_both (expr_spelled w into) (between ++ (expr_spelled w part ++ close_round ∷ [])) (expr_closes w into)
    (closes_both (expr_spelled w part) (close_round ∷ []) (expr_closes w part) (λ m. refl)) n
expr_closes w (cast e) n = expr_closes w e n
expr_closes w (function name) n = refl
expr_closes w (applied name e) n =
    closes_both (expr_spelled w e) (close_round ∷ []) (expr_closes w e) (λ m. refl) n

pub assign_closes : (w : Width) (set : Option Name) (name : Name) (e : Term) → Closes (assign_spelled w set name e)
assign_closes w set name e =
    closes_both (argument_spelled set name) (equals ∷ (expr_spelled w e ++ semicolon ∷ [])) (argument_closes set name)
    (closes_both (expr_spelled w e) (semicolon ∷ []) (expr_closes w e) (λ m. refl))

-- declarations
pub member_closes : (m : Member) → Closes (member_spelled m)
member_closes m n = refl

pub set_closes : (s : SetDef) → Closes (set_spelled s)
set_closes s n =
    let members = flat_map member_spelled s.members in
    behind_both (n + 1) members (close_brace ∷ arg_ s.name ∷ semicolon ∷ [])
    ∙ ap (λ m. m - 1) (closes_each member_spelled member_closes s.members (n + 1)) ∙ one_less n

pub static_closes : (is_static : Bool) → Closes (static_spelled is_static)
static_closes true n = refl
static_closes false n = refl

pub pattern_closes : (prefix : Prefix) (p : Pattern) → Closes (pattern_spelled prefix p)
pattern_closes prefix p n =
    closes_both (static_spelled prefix.is_static) (prototype_spelled prefix.name p.name)
    (static_closes prefix.is_static) (λ m. refl) n

pub extract_closes : (w : Width) (decoder : Name) (e : Extraction) → Closes (extract_spelled w decoder e)
extract_closes w decoder e n =
    closes_between n (flat_map (assignment_spelled w) e.assigns)
    (closes_each (assignment_spelled w) (λ a. assign_closes w None a.argument a.value) e.assigns)

pub union_closes : (patterns : List Pattern) (sets : List Name) → Closes (union_spelled patterns sets)
union_closes [] sets n = refl
union_closes (p ∷ ps) sets n =
    behind_both (n + 1) (flat_map union_set_spelled sets) (close_brace ∷ word (codes "u") ∷ semicolon ∷ [])
    ∙ ap (λ m. m - 1) (closes_each union_set_spelled (λ s m. refl) sets (n + 1)) ∙ one_less n

-- statements
mutual
  pub stmt_closes : (w : Width) (d p : Name) (s : Stmt) → Closes (stmt_spelled w d p s)
  stmt_closes w d p (on_mask m v ss) n = closes_between n (stmts_spelled w d p ss) (stmts_close w d p ss)
  stmt_closes w d p (switch m cs) n = closes_between n (cases_spelled w d p cs) (cases_close w d p cs)
  stmt_closes w d p (extract x s) n = refl
  stmt_closes w d p (assign s a e) n = assign_closes w (Some s) a e n
  stmt_closes w d p (call m s) n = refl

  pub stmts_close : (w : Width) (d p : Name) (ss : Stmts) → Closes (stmts_spelled w d p ss)
  stmts_close w d p done n = refl
  stmts_close w d p (then s ss) n =
      closes_both (stmt_spelled w d p s) (stmts_spelled w d p ss) (stmt_closes w d p s) (stmts_close w d p ss) n

  pub cases_close : (w : Width) (d p : Name) (cs : Cases) → Closes (cases_spelled w d p cs)
  cases_close w d p no_case n = refl
  cases_close w d p (or_case v ss cs) n =
      closes_both (stmts_spelled w d p ss) (break_spelled ++ cases_spelled w d p cs) (stmts_close w d p ss)
      (cases_close w d p cs) n

-- the load function's blocks
pub bytes_close : (d : Name) (bytes : Option (ℕ × ℕ)) → Closes (load_bytes_spelled d bytes)
bytes_close d None n = refl
bytes_close d (Some bytes) n = refl

mutual
  pub load_closes : (w : Width) (d : Name) (b : LoadBlock) → Closes (load_spelled w d b)
  load_closes w d (load_block bytes more) n =
      closes_both (load_bytes_spelled d bytes) (load_switch_spelled w d more ++ return_insn_spelled)
      (bytes_close d bytes)
      (closes_both (load_switch_spelled w d more) return_insn_spelled (load_switch_closes w d more) (λ m. refl)) n

  pub load_switch_closes : (w : Width) (d : Name) (more : LoadSwitch) → Closes (load_switch_spelled w d more)
  load_switch_closes w d no_switch n = refl
  load_switch_closes w d (load_switch m cs) n =
      closes_between n (load_cases_spelled w d cs) (load_cases_close w d cs)

  pub load_cases_close : (w : Width) (d : Name) (cs : LoadCases) → Closes (load_cases_spelled w d cs)
  load_cases_close w d no_load_case n = refl
  load_cases_close w d (or_load_case v b cs) n =
      closes_both (load_spelled w d b) (load_cases_spelled w d cs) (load_closes w d b) (load_cases_close w d cs) n

-- the heads of the decoder and of the load function open one
pub decoder_opens : (w : Width) (d : Name) (is_static : Bool) (n : ℕ)
    → open_behind n (decoder_head_spelled w d is_static) ≡ n + 1
decoder_opens w d true n = refl
decoder_opens w d false n = refl

pub load_opens : (w : Width) (d : Name) (is_static : Bool) (n : ℕ)
    → open_behind n (load_head_spelled w d is_static) ≡ n + 1
load_opens w d true n = refl
load_opens w d false n = refl
