-- The plain statement of a switch.
use Rattle.std.proofs.Common.{◌≡◌, ℕ, List, [], ◌∷◌, Vec, refl, sym, ap, ◌∙◌, rules, map}
use Rattle.std.specs.declared.alloc.Global.{Global}
use Rattle.std.specs.formers.vec.Vec.{mapped}
use Rattle.c_subset.specs.Programs.{Stmt, Stmts, switch}
use Rattle.c_subset.specs.View.{stmt_of, stmts_from, case_of, cases_of, cases_from}
use Rattle.c_subset.specs.declared.program.Stmt.{Stmt as MadeStmt, Switch, the_lemmas}

-- the cases as a fold sees them
abbrev folded : List (ℕ × Vec MadeStmt Global) → List (ℕ × Vec Stmt Global)
folded cs = map (λ c. (c.0, mapped stmt_of c.1)) cs

abbrev case_from : ℕ × Vec Stmt Global → ℕ × Stmts
case_from c = (c.0, stmts_from c.1.items)

cases_folded : (cs : List (ℕ × Vec MadeStmt Global)) → map case_from (folded cs) ≡ map case_of cs
cases_folded [] = refl
cases_folded (c ∷ cs) = ap (λ l. case_of c ∷ l) (cases_folded cs)

pub view_switch : (m : ℕ) (v : Vec (ℕ × Vec MadeStmt Global) Global)
    → stmt_of (Switch m v) ≡ switch m (cases_of v.items)
view_switch m v =
    let cases = cases_from (map case_from (folded v.items)) in
    let e : stmt_of (Switch m v) ≡ switch m cases = search (rules, the_lemmas) in
    e ∙ ap (λ l. switch m (cases_from l)) (cases_folded v.items)

-- the same of a statement that a match found to be one
pub seen_switch : (s : MadeStmt) (m : ℕ) (v : Vec (ℕ × Vec MadeStmt Global) Global)
    (cs : List (ℕ × Vec MadeStmt Global)) → s ≡ Switch m v → cs ≡ v.items → stmt_of s ≡ switch m (cases_of cs)
seen_switch s m v cs e f = ap stmt_of e ∙ view_switch m v ∙ ap (λ l. switch m (cases_of l)) (sym f)
