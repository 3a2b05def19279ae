use Rattle.std.proofs.Common.{nat_eq, subst, sym}
use Rattle.std.specs.Prelude.{IfSome}
use Rattle.std.specs.Cmp.Lexicographic.{pointwise}
use Rattle.std.proofs.lemmas.Map.Entries.{All-lookup}
use Rattle.dt_scope.specs.Fitting.{FieldFits}
use Rattle.dt_scope.proofs.scope.Scope.field.Goals as goal

pub returns-clause-fits : goal.returns-clause-fits
returns-clause-fits c =
    subst (λ o. IfSome o FieldFits) (sym c.get.ensures)
    (All-lookup FieldFits (pointwise nat_eq c.args.name) c.self.inside.fields c.self.invariant.0)
