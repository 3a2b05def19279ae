use Rattle.std.proofs.Common.{◌∙◌, ap}
use Rattle.dt_values.specs.SetsByName.{place_of_set}
use Rattle.dt_values.specs.declared.set.SetDef.{SetDef}
use Rattle.dt_fields.proofs.Keyed.{place_keyed}
use Rattle.dt_fields.proofs.sets.Sets.place.Goals as goal

pub returns : goal.returns
returns c = c.get_index_of.ensures.index ∙ place_keyed (λ (set : SetDef). set.name) c.self.inside.map.entries c.args.name c.self.invariant.0 ∙ ap (λ sets. place_of_set sets c.args.name) c.self.view_is
