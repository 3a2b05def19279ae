-- Assignments, one after another.
use Rattle.std.proofs.Common.{◌≡◌, ℕ, ◌+◌, ◌<◌, ◌≤◌, List, [], ◌∷◌, length, get_or, drop, map, Option, Some}
use Rattle.std.proofs.Common.{option_and_then, ap, sym, ◌∙◌}
use Rattle.std.proofs.lemmas.List.{at_drop_more, at_drop_all}
use Rattle.dt_values.specs.declared.ctype.Member.{Member}
use Rattle.dt_values.specs.Members.{type_in}
use Rattle.dt_host.specs.Hosts.{Answers}
use Rattle.c_exprs.specs.View.{term_of}
use Rattle.c_exprs.specs.declared.expr.Expr.{Expr}
use Rattle.c_subset.specs.Programs.{Name}
use Rattle.c_subset.specs.View.{assignment_of}
use Rattle.c_eval.specs.Runs.{Held, all_assigned, assigned, place_in_extraction}

module _ (bits word : ℕ) (answer : Answers) (ms : List Member) (given : List (Name × Expr)) (i : ℕ) (held : Held) where
  pub one_assigned : (a : Name × Expr) (o : Option Held) → i < length given → a ≡ get_or given i a
      → o ≡ assigned (place_in_extraction bits word answer held) (type_in ms a.0) a.0 (term_of a.1) held
      → all_assigned bits word answer ms (map assignment_of (drop i given)) held
      ≡ option_and_then (all_assigned bits word answer ms (map assignment_of (drop (i + 1) given))) o
  one_assigned a o within is one =
      at_drop_more (λ xs. all_assigned bits word answer ms (map assignment_of xs) held) given i a within
      ∙ ap (λ x. all_assigned bits word answer ms (map assignment_of (x ∷ drop (i + 1) given)) held) (sym is)
      ∙ ap (option_and_then (all_assigned bits word answer ms (map assignment_of (drop (i + 1) given)))) (sym one)

  pub none_left : length given ≤ i
      → all_assigned bits word answer ms (map assignment_of (drop i given)) held ≡ Some held
  none_left past = at_drop_all (λ xs. all_assigned bits word answer ms (map assignment_of xs) held) given i past
