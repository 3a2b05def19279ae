use Rattle.std.proofs.Common.{◌≡◌, ◌≤◌, drop, length}
use Rattle.dt_values.specs.Widths.{width_bits}
use Rattle.dt_fields.specs.FieldLines.{field_of, field_token_faults, field_with_tokens, no_field}
use Rattle.dt_fields.specs.View.{texts_at}
use Rattle.dt_fields.specs.declared.segment.TheConstants.{MOST_SEGMENTS}
use Rattle.dt_fields.proofs.field_lines.read_field.Given as goal

abbrev pub invariant-loop-token : goal.invariant-loop-token
invariant-loop-token l = record {
  field : field_with_tokens l.field (texts_at l.source (drop l.token-index l.tokens)) ≡ field_of (texts_at l.source l.tokens);
  faults : field_token_faults (width_bits l.fn.width) l.field (texts_at l.source (drop l.token-index l.tokens)) ≡ field_token_faults (width_bits l.fn.width) no_field (texts_at l.source l.tokens);
  few : length l.field.segments ≤ MOST_SEGMENTS;
}
