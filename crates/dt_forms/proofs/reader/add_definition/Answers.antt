use Rattle.std.proofs.Common.{◌≡◌, [], map, ap, ◌∙◌, sym, subst}
use Rattle.dt_lines.specs.Spans.{text_at}
use Rattle.dt_forms.specs.Heads.{head_of}
use Rattle.dt_forms.specs.Structure.{structure_rows}
use Rattle.dt_forms.proofs.HeadTokens.{begins_with_field, begins_with_set}
use Rattle.dt_forms.proofs.OpenGroups.{closes_innermost}
use Rattle.dt_forms.proofs.reader.add_definition.Goals as goal

pub add_field-requires-clause-field : goal.add_field-requires-clause-field
add_field-requires-clause-field c =
    begins_with_field c.args.headed.source.now c.args.headed.line.now.tokens c.args.headed.rest.now c.args.headed.first c.in-Field.field-0
    c.requires.headed.tokens (ap head_of (sym c.text.ensures) ∙ sym c.in-Field.ensures)

pub add_set-requires-clause-set : goal.add_set-requires-clause-set
add_set-requires-clause-set c =
    begins_with_set c.args.headed.source.now c.args.headed.line.now.tokens c.args.headed.rest.now c.args.headed.first c.in-Set.field-0
    c.requires.headed.tokens (ap head_of (sym c.text.ensures) ∙ sym c.in-Set.ensures)

pub close_group-requires : goal.close_group-requires
close_group-requires c =
    closes_innermost c.args.scope.now c.args.headed.line.now.indent (text_at c.args.headed.source.now c.args.headed.first)
    (map (text_at c.args.headed.source.now) c.args.headed.rest.now) c.in-Closes.kind
    (subst (λ h. structure_rows c.args.scope.now c.args.headed.line.now.indent (text_at c.args.headed.source.now c.args.headed.first)
    (map (text_at c.args.headed.source.now) c.args.headed.rest.now) h ≡ [])
    (ap head_of (sym c.text.ensures) ∙ sym c.in-Closes.ensures) c.requires.structure)
