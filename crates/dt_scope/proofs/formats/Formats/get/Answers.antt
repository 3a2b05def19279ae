use Rattle.std.proofs.Common.{◌∙◌, ap}
use Rattle.dt_fields.proofs.Keyed.{lookup_keyed}
use Rattle.dt_scope.specs.FormatsByName.{format_at}
use Rattle.dt_model.specs.declared.format.Format.{Format}
use Rattle.dt_scope.proofs.formats.Formats.get.Goals as goal

pub returns : goal.returns
returns c =
    c.get.ensures.value ∙ lookup_keyed (λ (f : Format). f.name) c.self.inside.map.entries c.args.name.now
    c.self.invariant
    ∙ ap (λ formats. format_at formats c.args.name.now) c.self.view_is
