use Rattle.std.proofs.Common.{ℕ, List, map, ap, ◌∙◌, rules}
use Rattle.std.specs.Prelude.{find, nat_eq, not}
use Rattle.std.specs.Cmp.Lexicographic.{pointwise}
use Rattle.std.specs.HashSet as bag
use Rattle.std.specs.List.{list_any}
use Rattle.dt_values.specs.declared.set.SetDef.{SetDef}
use Rattle.dt_tool.proofs.Evaluating.{first_undeclared_found}
use Rattle.dt_tool.proofs.evaluate.undeclared_set.Goals as goal

pub returns : goal.returns
returns c =
    let declared = c.in_ok-declared.declared in
    let h : bag.IsFromIterResult (pointwise nat_eq) c.in_ok-names.names.items declared = search rules in
    c.first_not_in.ensures
    ∙ ap (λ (ps : List (List ℕ × List ℕ)).
    find (λ set. not (bag.contains (pointwise nat_eq) declared set)) (map (λ p. p.1) ps)) c.items-2.ensures
    ∙ first_undeclared_found c.args.program.now.sets c.args.program.now.patterns
    (bag.contains (pointwise nat_eq) declared)
    (λ name. h.0 name ∙ ap (list_any (pointwise nat_eq name))
    (c.in_ok-names.ensures ∙ ap (map (λ (s : SetDef). s.name)) c.items.ensures))
