use Rattle.std.proofs.Common.{map}
use Rattle.dt_lines.specs.Spans.{text_at}
use Rattle.dt_scope.proofs.Fits.{fit_after}
use Rattle.dt_scope.proofs.scope.Scope.add_field.Goals as goal

pub invariant_of-self : goal.invariant_of-self
invariant_of-self c = (
  fit_after c.field_line.result c.args.width c.self.inside.fields c.field_line.new.fields
      (map (text_at c.args.source.now) c.args.line.now.tokens) c.requires.field
      c.field_line.ensures.added c.field_line.ensures.kept c.field_line.ensures.unchanged c.self.invariant.0,
  c.self.invariant.1,
)
