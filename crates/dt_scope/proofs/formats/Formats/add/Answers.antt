use Rattle.dt_fields.proofs.Keyed.{inserted}
use Rattle.dt_model.specs.declared.format.Format.{Format}
use Rattle.dt_scope.proofs.formats.Formats.add.Goals as goal

pub invariant_of-self : goal.invariant_of-self
invariant_of-self c = (inserted (λ (f : Format). f.name) c.self.inside.map _ _ c.args.format c.self.invariant
    c.self.view_is c.requires c.in-Ok.ensures.entries).0

pub returns-in-Ok-clause-added : goal.returns-in-Ok-clause-added
returns-in-Ok-clause-added c = (inserted
    (λ (f : Format). f.name) c.self.inside.map _ _ c.args.format c.self.invariant c.self.view_is c.requires
    c.in-Ok.ensures.entries).1
