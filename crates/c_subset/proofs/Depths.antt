-- A program with no too deep token nests no deeper than the limit.
use Rattle.std.proofs.Common.{◌≡◌, ℕ, zero, suc, ◌<◌, ◌+◌, List, [], ◌∷◌, ◌++◌, Option, Some, None, refl, sym, ap}
use Rattle.std.proofs.Common.{subst, ◌∙◌, arith, append_assoc}
use Rattle.std.specs.Prelude.{flat_map, IfSome}
use Rattle.dt_values.specs.declared.width.Width.{Width}
use Rattle.c_tokens.specs.Depth.{most_open, open_behind, IsDeep, IsTooDeep}
use Rattle.c_tokens.specs.Marks.{close_brace}
use Rattle.c_tokens.specs.Tokens.{Token}
use Rattle.c_tokens.proofs.Deep.{deep_here}
use Rattle.c_subset.specs.Programs.{Name, Stmt, on_mask, switch, extract, assign, call, Stmts, done, then, Cases}
use Rattle.c_subset.specs.Programs.{no_case, or_case, LoadBlock, load_block, LoadSwitch, no_switch, load_switch}
use Rattle.c_subset.specs.Programs.{LoadCases, no_load_case, or_load_case, Program, prefix_of}
use Rattle.c_subset.specs.Programs.{set_spelled, pattern_spelled, extract_spelled, if_spelled, switch_spelled}
use Rattle.c_subset.specs.Programs.{case_spelled, break_spelled, stmt_spelled, stmts_spelled, cases_spelled}
use Rattle.c_subset.specs.Programs.{union_spelled, decoder_head_spelled, decoder_end_spelled, load_bytes_spelled}
use Rattle.c_subset.specs.Programs.{return_insn_spelled, load_spelled, load_switch_spelled, load_cases_spelled}
use Rattle.c_subset.specs.Programs.{load_head_spelled, load_function_spelled, decoder_spelled, spelling}
use Rattle.c_subset.specs.Nesting.{StmtWithin, StmtsWithin, CasesWithin, LoadWithin, LoadSwitchWithin, LoadCasesWithin}
use Rattle.c_subset.proofs.Braces.{Closes, behind_both, closes_each, set_closes, pattern_closes}
use Rattle.c_subset.proofs.Braces.{extract_closes, union_closes, stmt_closes, stmts_close, cases_close, bytes_close}
use Rattle.c_subset.proofs.Braces.{load_closes, load_cases_close, decoder_opens, load_opens}

-- what is too deep behind some tokens is too deep with them
deep_behind : (n : ℕ) (ts rest : List Token) → IsDeep (open_behind n ts) rest → IsDeep n (ts ++ rest)
deep_behind n ts rest d = record {
  front = ts ++ d.front;
  token = d.token;
  rest = d.rest;
  splits = ap (λ l. ts ++ l) d.splits ∙ sym (append_assoc ts d.front (d.token ∷ d.rest));
  inside = subst (λ m. most_open < m) (sym (behind_both n ts d.front)) d.inside;
}

-- with so many braces open in front of the tokens, none is too deep
abbrev pub IsShallow : ℕ → List Token → Type 0
IsShallow n tokens = ¬ IsDeep n tokens

behind : (n : ℕ) (ts rest : List Token) → IsShallow n (ts ++ rest) → IsShallow (open_behind n ts) rest
behind n ts rest h = λ d. h (deep_behind n ts rest d)

behind_closed : (n : ℕ) (ts rest : List Token) → Closes ts → IsShallow n (ts ++ rest) → IsShallow n rest
behind_closed n ts rest closes h = subst (λ m. IsShallow m rest) (closes n) (behind n ts rest h)

grouped : (n : ℕ) (a b c : List Token) → IsShallow n ((a ++ b) ++ c) → IsShallow n (a ++ (b ++ c))
grouped n a b c h = subst (IsShallow n) (append_assoc a b c) h

-- a block that is opened at the limit is too deep
block_too_deep : (n : ℕ) (ts rest : List Token) → n + 0 ≡ most_open → Closes ts
    → IsShallow (n + 1) (ts ++ (close_brace ∷ rest)) → ⊥
block_too_deep n ts rest e closes h =
    behind_closed (n + 1) ts (close_brace ∷ rest) closes h (deep_here (n + 1) close_brace rest (omega (arith, e)))

-- what stands in a block, and behind it
in_block : (n : ℕ) (head ts rest : List Token) → open_behind n head ≡ n + 1
    → IsShallow n ((head ++ (ts ++ close_brace ∷ [])) ++ rest) → IsShallow (n + 1) (ts ++ (close_brace ∷ rest))
in_block n head ts rest opens h =
    grouped (n + 1) ts (close_brace ∷ []) rest
    (subst (λ m. IsShallow m ((ts ++ close_brace ∷ []) ++ rest)) opens
    (behind n head ((ts ++ close_brace ∷ []) ++ rest) (grouped n head (ts ++ close_brace ∷ []) rest h)))

mutual
  stmt_within : (w : Width) (d p : Name) (n k : ℕ) (s : Stmt) (rest : List Token) → n + k ≡ most_open
      → IsShallow n (stmt_spelled w d p s ++ rest) → StmtWithin k s
  stmt_within w d p n zero (on_mask m v ss) rest e h =
      block_too_deep n (stmts_spelled w d p ss) rest e (stmts_close w d p ss)
      (in_block n (if_spelled w m v) (stmts_spelled w d p ss) rest refl h)
  stmt_within w d p n (suc k) (on_mask m v ss) rest e h =
      stmts_within w d p (n + 1) k ss (close_brace ∷ rest) (omega (arith, e))
      (in_block n (if_spelled w m v) (stmts_spelled w d p ss) rest refl h)
  stmt_within w d p n zero (switch m cs) rest e h =
      block_too_deep n (cases_spelled w d p cs) rest e (cases_close w d p cs)
      (in_block n (switch_spelled w m) (cases_spelled w d p cs) rest refl h)
  stmt_within w d p n (suc k) (switch m cs) rest e h =
      cases_within w d p (n + 1) k cs (close_brace ∷ rest) (omega (arith, e))
      (in_block n (switch_spelled w m) (cases_spelled w d p cs) rest refl h)
  stmt_within w d p n zero (extract x s) rest e h = tt
  stmt_within w d p n (suc k) (extract x s) rest e h = tt
  stmt_within w d p n zero (assign s a x) rest e h = tt
  stmt_within w d p n (suc k) (assign s a x) rest e h = tt
  stmt_within w d p n zero (call m s) rest e h = tt
  stmt_within w d p n (suc k) (call m s) rest e h = tt

  pub stmts_within : (w : Width) (d p : Name) (n k : ℕ) (ss : Stmts) (rest : List Token) → n + k ≡ most_open
      → IsShallow n (stmts_spelled w d p ss ++ rest) → StmtsWithin k ss
  stmts_within w d p n k done rest e h = tt
  stmts_within w d p n k (then s ss) rest e h =
      let first = stmt_spelled w d p s in
      let more = stmts_spelled w d p ss ++ rest in
      let parts = grouped n first (stmts_spelled w d p ss) rest h in (
        stmt_within w d p n k s more e parts,
        stmts_within w d p n k ss rest e (behind_closed n first more (stmt_closes w d p s) parts),
      )

  cases_within : (w : Width) (d p : Name) (n k : ℕ) (cs : Cases) (rest : List Token) → n + k ≡ most_open
      → IsShallow n (cases_spelled w d p cs ++ rest) → CasesWithin k cs
  cases_within w d p n k no_case rest e h = tt
  cases_within w d p n k (or_case v ss cs) rest e h =
      let body = stmts_spelled w d p ss in
      let more = break_spelled ++ cases_spelled w d p cs in
      let inner = behind n (case_spelled w v) ((body ++ more) ++ rest) h in
      let parts = grouped n body more rest inner in
      let later = behind_closed n body (more ++ rest) (stmts_close w d p ss) parts in (
        stmts_within w d p n k ss (more ++ rest) e parts,
        cases_within w d p n k cs rest e (behind n break_spelled (cases_spelled w d p cs ++ rest) later),
      )

mutual
  pub load_within : (w : Width) (d : Name) (n k : ℕ) (b : LoadBlock) (rest : List Token) → n + k ≡ most_open
      → IsShallow n (load_spelled w d b ++ rest) → LoadWithin k b
  load_within w d n k (load_block bytes more) rest e h =
      let loads = load_bytes_spelled d bytes in
      let turns = load_switch_spelled w d more in
      let inner = behind_closed n loads ((turns ++ return_insn_spelled) ++ rest) (bytes_close d bytes)
      (grouped n loads (turns ++ return_insn_spelled) rest h) in
      load_switch_within w d n k more (return_insn_spelled ++ rest) e (grouped n turns return_insn_spelled rest inner)

  load_switch_within : (w : Width) (d : Name) (n k : ℕ) (more : LoadSwitch) (rest : List Token) → n + k ≡ most_open
      → IsShallow n (load_switch_spelled w d more ++ rest) → LoadSwitchWithin k more
  load_switch_within w d n zero no_switch rest e h = tt
  load_switch_within w d n (suc k) no_switch rest e h = tt
  load_switch_within w d n zero (load_switch m cs) rest e h =
      block_too_deep n (load_cases_spelled w d cs) rest e (load_cases_close w d cs)
      (in_block n (switch_spelled w m) (load_cases_spelled w d cs) rest refl h)
  load_switch_within w d n (suc k) (load_switch m cs) rest e h =
      load_cases_within w d (n + 1) k cs (close_brace ∷ rest) (omega (arith, e))
      (in_block n (switch_spelled w m) (load_cases_spelled w d cs) rest refl h)

  load_cases_within : (w : Width) (d : Name) (n k : ℕ) (cs : LoadCases) (rest : List Token) → n + k ≡ most_open
      → IsShallow n (load_cases_spelled w d cs ++ rest) → LoadCasesWithin k cs
  load_cases_within w d n k no_load_case rest e h = tt
  load_cases_within w d n k (or_load_case v b cs) rest e h =
      let block = load_spelled w d b in
      let more = load_cases_spelled w d cs in
      let parts = grouped n block more rest (behind n (case_spelled w v) ((block ++ more) ++ rest) h) in (
        load_within w d n k b (more ++ rest) e parts,
        load_cases_within w d n k cs rest e (behind_closed n block (more ++ rest) (load_closes w d b) parts),
      )

load_function_within : (p : Program) (load : Option LoadBlock)
    → IsShallow 0 (load_function_spelled p.width p.decoder p.decoder_static load) → IfSome load (LoadWithin 127)
load_function_within p None h = tt
load_function_within p (Some block) h =
    let head = load_head_spelled p.width p.decoder p.decoder_static in
    let rest = load_spelled p.width p.decoder block ++ close_brace ∷ [] in
    let opens = load_opens p.width p.decoder p.decoder_static 0 in
    let inside = subst (λ m. IsShallow m rest) opens (behind 0 head rest h) in
    load_within p.width p.decoder 1 127 block (close_brace ∷ []) refl inside

decoder_within : (p : Program) → IsShallow 0 (decoder_spelled p)
    → StmtsWithin 127 p.body × IfSome p.load (LoadWithin 127)
decoder_within p h =
    let load = load_function_spelled p.width p.decoder p.decoder_static p.load in
    let body = stmts_spelled p.width p.decoder (prefix_of p.prefix).name p.body in
    let union = union_spelled p.patterns p.union_sets in
    let ends = decoder_end_spelled ++ load in
    let head = decoder_head_spelled p.width p.decoder p.decoder_static in
    let opens = decoder_opens p.width p.decoder p.decoder_static 0 in
    let first = subst (λ m. IsShallow m (union ++ (body ++ ends))) opens (behind 0 head (union ++ (body ++ ends)) h) in
    let second = behind_closed 1 union (body ++ ends) (union_closes p.patterns p.union_sets) first in
    let closes = stmts_close p.width p.decoder (prefix_of p.prefix).name p.body in
    let third = behind_closed 1 body ends closes second in (
      stmts_within p.width p.decoder (prefix_of p.prefix).name 1 127 p.body ends refl second,
      load_function_within p p.load (behind 1 decoder_end_spelled load third),
    )

-- The decoder's own brace is one of those that may be open around a token, and so is the load function's.
pub shallow : (p : Program) → ¬ IsTooDeep (spelling p) → StmtsWithin 127 p.body × IfSome p.load (LoadWithin 127)
unfolding spelling
shallow p h =
    let prefix = prefix_of p.prefix in
    let extracts = flat_map (extract_spelled p.width p.decoder) p.extracts in
    let patterns = flat_map (pattern_spelled prefix) p.patterns in
    let sets = flat_map set_spelled p.sets in
    let first = behind_closed 0 sets (patterns ++ (extracts ++ decoder_spelled p))
    (closes_each set_spelled set_closes p.sets) h in
    let second = behind_closed 0 patterns (extracts ++ decoder_spelled p)
    (closes_each (pattern_spelled prefix) (pattern_closes prefix) p.patterns) first in
    let third = behind_closed 0 extracts (decoder_spelled p)
    (closes_each (extract_spelled p.width p.decoder) (extract_closes p.width p.decoder) p.extracts) second in
    decoder_within p third
