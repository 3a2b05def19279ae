-- A statement's plain one, a variant at a time.
use Rattle.std.proofs.Common.{◌≡◌, ℕ, List, [], ◌∷◌, Vec, refl, sym, ap, ◌∙◌, rules, map}
use Rattle.std.specs.declared.alloc.Global.{Global}
use Rattle.std.specs.formers.vec.Vec.{mapped}
use Rattle.c_exprs.specs.View.{term_of}
use Rattle.c_exprs.specs.declared.expr.Expr.{Expr}
use Rattle.c_subset.specs.Programs.{Name, Stmt, Stmts, on_mask, switch, extract, assign, call}
use Rattle.c_subset.specs.View.{stmt_of, stmts_of, stmts_from, case_of, cases_of, cases_from}
use Rattle.c_subset.specs.declared.program.Stmt.{Stmt as MadeStmt, If, Switch, Extract, Assign, Call, the_lemmas}

-- the cases as a fold sees them
abbrev folded : List (ℕ × Vec MadeStmt Global) → List (ℕ × Vec Stmt Global)
folded cs = map (λ c. (c.0, mapped stmt_of c.1)) cs

abbrev case_from : ℕ × Vec Stmt Global → ℕ × Stmts
case_from c = (c.0, stmts_from c.1.items)

cases_folded : (cs : List (ℕ × Vec MadeStmt Global)) → map case_from (folded cs) ≡ map case_of cs
cases_folded [] = refl
cases_folded (c ∷ cs) = ap (λ l. case_of c ∷ l) (cases_folded cs)

view_if : (m b : ℕ) (v : Vec MadeStmt Global) → stmt_of (If m b v) ≡ on_mask m b (stmts_of v.items)
view_if m b v = search (rules, the_lemmas)

view_switch : (m : ℕ) (v : Vec (ℕ × Vec MadeStmt Global) Global) → stmt_of (Switch m v) ≡ switch m (cases_of v.items)
view_switch m v =
    let e : stmt_of (Switch m v) ≡ switch m (cases_from (map case_from (folded v.items))) =
    search (rules, the_lemmas) in
    e ∙ ap (λ l. switch m (cases_from l)) (cases_folded v.items)

view_extract : (f n : Name) → stmt_of (Extract f n) ≡ extract f n
view_extract f n = search (rules, the_lemmas)

view_assign : (n a : Name) (e : Expr) → stmt_of (Assign n a e) ≡ assign n a (term_of e)
view_assign n a e = search (rules, the_lemmas)

view_call : (p n : Name) → stmt_of (Call p n) ≡ call p n
view_call p n = search (rules, the_lemmas)

-- the same of a statement that a match found to be one
pub seen_if : {s : MadeStmt} {m b : ℕ} (v : Vec MadeStmt Global) {ss : List MadeStmt} → s ≡ If m b v → ss ≡ v.items
    → stmt_of s ≡ on_mask m b (stmts_of ss)
seen_if {s} {m} {b} v {ss} e f = ap stmt_of e ∙ view_if m b v ∙ ap (λ l. on_mask m b (stmts_of l)) (sym f)

pub seen_switch : {s : MadeStmt} {m : ℕ}
    (v : Vec (ℕ × Vec MadeStmt Global) Global) {cs : List (ℕ × Vec MadeStmt Global)}
    → s ≡ Switch m v → cs ≡ v.items → stmt_of s ≡ switch m (cases_of cs)
seen_switch {s} {m} v {cs} e f = ap stmt_of e ∙ view_switch m v ∙ ap (λ l. switch m (cases_of l)) (sym f)

pub seen_extract : {s : MadeStmt} {f n : Name} → s ≡ Extract f n → stmt_of s ≡ extract f n
seen_extract {s} {f} {n} e = ap stmt_of e ∙ view_extract f n

pub seen_assign : {s : MadeStmt} {n a : Name} {x : Expr} → s ≡ Assign n a x → stmt_of s ≡ assign n a (term_of x)
seen_assign {s} {n} {a} {x} e = ap stmt_of e ∙ view_assign n a x

pub seen_call : {s : MadeStmt} {p n : Name} → s ≡ Call p n → stmt_of s ≡ call p n
seen_call {s} {p} {n} e = ap stmt_of e ∙ view_call p n
