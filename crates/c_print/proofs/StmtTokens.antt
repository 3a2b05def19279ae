-- Statements have the tokens that spell them, whatever marks stand before them.
use Rattle.std.proofs.Common.{◌≡◌, ℕ, ◌+◌, ◌++◌, Some, refl, sym, ap, ◌∙◌, append_assoc}
use Rattle.dt_values.specs.Names.{IsName}
use Rattle.dt_values.specs.declared.width.Width.{Width}
use Rattle.c_subset.specs.Programs.{Name, stmt_spelled, stmts_spelled, cases_spelled}
use Rattle.c_subset.specs.Keeps.{StmtKeeps, StmtsKeep, CasesKeep, HasNoCall, HaveNoCall, CasesHaveNoCall}
use Rattle.c_tokens.proofs.Lexing.{Lexes, lexes_none, lexes_append}
use Rattle.c_print.proofs.ExprTokens as fields
use Rattle.c_print.specs.Marked.{Part, if_mask, switch_by, extract_to, assign_to, call_to}
use Rattle.c_print.specs.Marked.{Block, no_part, and_part, and_mark, Branches, no_branch, or_branch}
use Rattle.c_print.specs.Marked.{erase_part, erase, erase_branches, PartMarksFit, MarksFit, BranchMarksFit, joined}
use Rattle.c_print.specs.Lines.{mark_line}
use Rattle.c_print.specs.Printed.{part_text, block_text, branches_text}
use Rattle.c_print.proofs.LineTokens.{if_line_lexes, switch_line_lexes, case_line_lexes, break_line_lexes}
use Rattle.c_print.proofs.LineTokens.{close_line_lexes, extract_line_lexes, call_line_lexes, mark_lexes}

-- the prefix is a name, or there is no call
pub data Prefixed (prefix : Name) (NoCall : Type 0) : Type 0 where
  named : IsName prefix → Prefixed prefix NoCall
  callless : NoCall → Prefixed prefix NoCall

one_of : {A B : Type 0} {prefix : Name} → Prefixed prefix (A × B) → Prefixed prefix A
one_of (named h) = named h
one_of (callless n) = callless n.0

rest_of : {A B : Type 0} {prefix : Name} → Prefixed prefix (A × B) → Prefixed prefix B
rest_of (named h) = named h
rest_of (callless n) = callless n.1

is_named : {prefix : Name} → Prefixed prefix ⊥ → IsName prefix
is_named (named h) = h
is_named (callless n) = absurd n

module _ (w : Width) (d p : Name) (h : IsName d) where
  mutual
    part_lexes : (level : ℕ) (part : Part) → StmtKeeps (erase_part part) → PartMarksFit part
        → Prefixed p (HasNoCall (erase_part part))
        → Lexes (part_text w d p level part) (stmt_spelled w d p (erase_part part))
    part_lexes level (if_mask m v block) k f c =
        lexes_append (if_line_lexes w level m v)
        (lexes_append (block_lexes (level + 4) block k f c) (close_line_lexes level))
    part_lexes level (switch_by m branches) k f c =
        lexes_append (switch_line_lexes w level m)
        (lexes_append (branches_lex level branches k f c) (close_line_lexes level))
    part_lexes level (extract_to x s) k f c = extract_line_lexes w level d p x s h k.0 k.1
    part_lexes level (assign_to s a e) k f c =
        fields.assignment_lexes w level (Some s) a e k.2.names (k.0, k.1)
    part_lexes level (call_to n s) k f c = call_line_lexes w level d p n s (is_named c) k.0 k.1

    pub block_lexes : (level : ℕ) (block : Block) → StmtsKeep (erase block) → MarksFit block
        → Prefixed p (HaveNoCall (erase block))
        → Lexes (block_text w d p level block) (stmts_spelled w d p (erase block))
    block_lexes level no_part k f c = lexes_none
    block_lexes level (and_part part more) k f c =
        lexes_append (part_lexes level part k.0 f.0 (one_of c)) (block_lexes level more k.1 f.1 (rest_of c))
    block_lexes level (and_mark file line more) k f c =
        lexes_append (mark_lexes level file line f.0 f.1) (block_lexes level more k f.2 c)

    branches_lex : (level : ℕ) (branches : Branches) → CasesKeep (erase_branches branches) → BranchMarksFit branches
        → Prefixed p (CasesHaveNoCall (erase_branches branches))
        → Lexes (branches_text w d p level branches) (cases_spelled w d p (erase_branches branches))
    branches_lex level no_branch k f c = lexes_none
    branches_lex level (or_branch v block branches) k f c =
        lexes_append (case_line_lexes w level v)
        (lexes_append (block_lexes (level + 4) block k.0 f.0 (one_of c))
        (lexes_append (break_line_lexes (level + 4)) (branches_lex level branches k.1 f.1 (rest_of c))))

-- the text of one block behind another
pub joined_text : (w : Width) (d p : Name) (level : ℕ) (a b : Block)
    → block_text w d p level (joined a b) ≡ block_text w d p level a ++ block_text w d p level b
joined_text w d p level no_part b = refl
joined_text w d p level (and_part part more) b =
    ap (λ x. part_text w d p level part ++ x) (joined_text w d p level more b)
    ∙ sym (append_assoc (part_text w d p level part) (block_text w d p level more) (block_text w d p level b))
joined_text w d p level (and_mark file line more) b =
    ap (λ x. mark_line level file line ++ x) (joined_text w d p level more b)
    ∙ sym (append_assoc (mark_line level file line) (block_text w d p level more) (block_text w d p level b))

pub joined_marks : (a b : Block) → MarksFit a → MarksFit b → MarksFit (joined a b)
joined_marks no_part b h k = k
joined_marks (and_part part more) b h k = (h.0, joined_marks more b h.1 k)
joined_marks (and_mark file line more) b h k = (h.0, h.1, joined_marks more b h.2 k)
