-- The readers of the decoder's statements (the C subset, docs/C_SUBSET.md).
use Rattle.std.specs.Prelude.{ℕ, zero, suc, ◌||◌, not, Bool, true, false, List, [], ◌∷◌, ◌++◌, Option, Some, None}
use Rattle.std.specs.Prelude.{codes}
use Rattle.dt_values.specs.declared.width.Width.{Width}
use Rattle.c_exprs.specs.Exprs.{Term}
use Rattle.c_exprs.specs.ExprParsing.{set_assignment_at}
use Rattle.c_tokens.specs.Front.{name_behind_at, hexadecimal_at}
use Rattle.c_tokens.specs.Marks.{open_round, close_round, open_brace, close_brace, semicolon, comma, ampersand, colon}
use Rattle.c_tokens.specs.Marks.{dot}
use Rattle.c_tokens.specs.Parsing.{Parse, begins, is_nothing, behind, closed, both, made, choose, nothing, guarded}
use Rattle.c_tokens.specs.Parsing.{many}
use Rattle.c_tokens.specs.Tokens.{Token, word, double_equals}
use Rattle.c_subset.specs.Programs.{Name, Stmt, on_mask, switch, extract, assign, call, Stmts, break_spelled}
use Rattle.c_subset.specs.View.{stmts_from, cases_from}

-- what statements are read with: the width, the decoder's name, and what stands before the patterns' names
pub record Scope : Type 0 where
  pub width : Width
  pub decoder : Name
  pub prefix : Option Name

-- (ctx, &u.
abbrev pub live_open : List Token
live_open = open_round ∷ word (codes "ctx") ∷ comma ∷ ampersand ∷ word (codes "u") ∷ dot ∷ []

unfoldable pub live_set_at : Parse Name
live_set_at = name_behind_at (codes "f_")

abbrev pub extract_of : Name × Name → Stmt
extract_of x = extract x.0 x.1

abbrev pub extract_end : List Token
extract_end = comma ∷ word (codes "insn") ∷ close_round ∷ semicolon ∷ []

-- F_extract_X(ctx, &u.f_S, insn);
unfoldable pub extract_at : Name → Parse Stmt
extract_at decoder =
    made extract_of
    (both (name_behind_at (decoder ++ codes "_extract_")) (behind live_open (closed live_set_at extract_end)))

abbrev pub call_of : Name × Name → Stmt
call_of x = call x.0 x.1

abbrev pub call_open : List Token
call_open = word (codes "if") ∷ open_round ∷ []

abbrev pub call_end : List Token
call_end = close_round ∷ close_round ∷ word (codes "return") ∷ word (codes "true") ∷ semicolon ∷ []

-- if (P_NAME(ctx, &u.f_S)) return true;
unfoldable pub prefixed_call_at : Name → Parse Stmt
prefixed_call_at prefix =
    made call_of
    (behind call_open
    (both (name_behind_at (prefix ++ codes "_")) (behind live_open (closed live_set_at call_end))))

abbrev pub call_at : Option Name → Parse Stmt
call_at None = nothing
call_at (Some prefix) = prefixed_call_at prefix

abbrev pub assign_of : (Name × Name) × Term → Stmt
assign_of x = assign x.0.0 x.0.1 x.1

-- u.f_S.ARG = EXPR;
unfoldable pub assign_at : Width → Parse Stmt
assign_at w = made assign_of (set_assignment_at w)

abbrev pub if_open : List Token
if_open = word (codes "if") ∷ open_round ∷ open_round ∷ word (codes "insn") ∷ ampersand ∷ []

abbrev pub if_middle : List Token
if_middle = close_round ∷ double_equals ∷ []

abbrev pub block_open : List Token
block_open = close_round ∷ open_brace ∷ []

abbrev pub block_end : List Token
block_end = close_brace ∷ []

-- if ((insn & M) == V) {
unfoldable pub if_head_at : Width → Parse (ℕ × ℕ)
if_head_at w =
    behind if_open (both (hexadecimal_at w) (behind if_middle (closed (hexadecimal_at w) block_open)))

abbrev pub if_of : (ℕ × ℕ) × Stmts → Stmt
if_of x = on_mask x.0.0 x.0.1 x.1

unfoldable pub if_at : Width → Parse Stmts → Parse Stmt
if_at w inner = made if_of (both (if_head_at w) (closed inner block_end))

abbrev pub switch_word : List Token
switch_word = word (codes "switch") ∷ []

abbrev pub switch_open : List Token
switch_open = word (codes "switch") ∷ open_round ∷ word (codes "insn") ∷ ampersand ∷ []

-- switch (insn & M) {
unfoldable pub switch_head_at : Width → Parse ℕ
switch_head_at w = behind switch_open (closed (hexadecimal_at w) block_open)

abbrev pub case_word : List Token
case_word = word (codes "case") ∷ []

unfoldable pub starts_case : List Token → Bool
starts_case ts = begins case_word ts

-- case V:
unfoldable pub case_head_at : Width → Parse ℕ
case_head_at w = behind case_word (closed (hexadecimal_at w) (colon ∷ []))

unfoldable pub case_at : Width → Parse Stmts → Parse (ℕ × Stmts)
case_at w inner = both (case_head_at w) (closed inner break_spelled)

abbrev pub has_item : {A : Type 0} → List A → Bool
has_item [] = false
has_item (x ∷ xs) = true

abbrev pub switch_of : ℕ × List (ℕ × Stmts) → Stmt
switch_of x = switch x.0 (cases_from x.1)

-- a switch with at least one case
unfoldable pub switch_at : Width → Parse Stmts → Parse Stmt
switch_at w inner =
    made switch_of
    (both (switch_head_at w) (closed (guarded has_item (many starts_case (case_at w inner))) block_end))

abbrev pub if_word : List Token
if_word = word (codes "if") ∷ []

abbrev pub u_word : List Token
u_word = word (codes "u") ∷ []

-- one statement, with what reads the statements inside its braces
unfoldable pub stmt_at : Scope → Parse Stmts → Parse Stmt
stmt_at g inner =
    choose (begins if_open) (if_at g.width inner)
    (choose (begins if_word) (call_at g.prefix)
    (choose (begins switch_word) (switch_at g.width inner)
    (choose (begins u_word) (assign_at g.width) (extract_at g.decoder))))

abbrev pub return_word : List Token
return_word = word (codes "return") ∷ []

abbrev pub break_word : List Token
break_word = word (codes "break") ∷ []

-- a list of statements ends before }, break and return, and where no token is left
unfoldable pub starts_stmt : List Token → Bool
starts_stmt ts = not (is_nothing ts || (begins block_end ts || (begins break_word ts || begins return_word ts)))

unfoldable pub block_at : Scope → Parse Stmts → Parse Stmts
block_at g inner = made stmts_from (many starts_stmt (stmt_at g inner))

-- the statements inside braces, which nest less deep than the number
unfoldable pub inner_at : Scope → ℕ → Parse Stmts
inner_at g zero = nothing
inner_at g (suc braces) = block_at g (inner_at g braces)

-- statements whose braces nest no deeper than the number
unfoldable pub stmts_at : Scope → ℕ → Parse Stmts
stmts_at g braces = block_at g (inner_at g braces)
