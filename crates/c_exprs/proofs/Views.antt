-- What an expression in memory stands for, where a function is asked.
use Rattle.std.proofs.Common.{◌≡◌, ℕ, List, Box, Option, Some, None, option_map, ap, ◌∙◌, rules}
use Rattle.std.specs.declared.alloc.Global.{Global}
use Rattle.c_exprs.specs.Exprs.{applied, deposit}
use Rattle.c_exprs.specs.View.{term_of, applied_to}
use Rattle.c_exprs.specs.declared.expr.Expr.{Expr, Function, Deposit, the_lemmas}

pub view_function : (f : List ℕ) (e : Option (Box Expr Global))
    → term_of (Function f e) ≡ applied_to f (option_map (λ b. term_of b.value) e)
view_function f None = search (rules, the_lemmas)
view_function f (Some b) = search (rules, the_lemmas)

pub view_applied : (f : List ℕ) (b : Box Expr Global) (e : Expr) → b.value ≡ e
    → term_of (Function f (Some b)) ≡ applied f (term_of e)
view_applied f b e h = view_function f (Some b) ∙ ap (λ v. applied f (term_of v)) h

pub view_deposit : (a b : Box Expr Global) (x y : Expr) (p l : ℕ) → a.value ≡ x → b.value ≡ y
    → term_of (Deposit a p l b) ≡ deposit (term_of x) p l (term_of y)
view_deposit a b x y p l h k =
    let shown : term_of (Deposit a p l b) ≡ deposit (term_of a.value) p l (term_of b.value) =
    search (rules, the_lemmas) in
    shown ∙ ap (λ v. deposit (term_of v) p l (term_of b.value)) h ∙ ap (λ v. deposit (term_of x) p l (term_of v)) k
