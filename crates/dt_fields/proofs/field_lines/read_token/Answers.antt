use Rattle.std.proofs.Common.{ap, ◌∙◌}
use Rattle.dt_values.specs.Widths.{width_bits}
use Rattle.dt_lines.specs.Spans.{text_at}
use Rattle.dt_fields.specs.FieldTokens.{field_token}
use Rattle.dt_fields.proofs.FieldLines.{function_kept, function_broken}
use Rattle.dt_fields.proofs.field_lines.read_token.Goals as goal

pub returns-in-Function-clause-kept : goal.returns-in-Function-clause-kept
returns-in-Function-clause-kept c =
    function_kept c.read_function.result c.args.field.now c.in-Function.name.now (text_at c.args.source.now c.args.token) (width_bits c.args.width)
    (c.in-Function.ensures.token ∙ ap field_token c.text.ensures) c.read_function.ensures.kept

pub returns-in-Function-clause-broken : goal.returns-in-Function-clause-broken
returns-in-Function-clause-broken c =
    function_broken c.read_function.result c.args.field.now c.in-Function.name.now c.args.source.now c.args.token (width_bits c.args.width)
    (c.in-Function.ensures.token ∙ ap field_token c.text.ensures) c.requires.within c.read_function.ensures.broken
