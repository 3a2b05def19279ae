use Rattle.std.proofs.Common.{◌∙◌, ap}
use Rattle.dt_fields.proofs.Keyed.{place_keyed}
use Rattle.dt_scope.specs.FormatsByName.{place_of_format}
use Rattle.dt_model.specs.declared.format.Format.{Format}
use Rattle.dt_scope.proofs.formats.Formats.place.Goals as goal

pub returns : goal.returns
returns c =
    c.get_index_of.ensures.index ∙ place_keyed
    (λ (f : Format). f.name) c.self.inside.map.entries c.args.name c.self.invariant
    ∙ ap (λ formats. place_of_format formats c.args.name) c.self.view_is
