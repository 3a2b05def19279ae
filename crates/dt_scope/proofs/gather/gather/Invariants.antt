use Rattle.std.proofs.Common.{◌≡◌, drop, map}
use Rattle.dt_values.specs.Widths.{width_bits}
use Rattle.dt_lines.specs.Spans.{text_at}
use Rattle.dt_scope.specs.ElementRows.{IsSmall, element_faults}
use Rattle.dt_scope.specs.Gathering.{gathered, given_after, nothing_given}
use Rattle.dt_scope.proofs.gather.gather.Given as goal

abbrev pub invariant-loop-token : goal.invariant-loop-token
invariant-loop-token l = record {
  given : given_after (width_bits l.fn.width) l.scope.fields l.gathered
      (map (text_at l.source) (drop l.token-index l.tokens))
      ≡ gathered (width_bits l.fn.width) l.scope.fields (map (text_at l.source) l.tokens);
  faults : element_faults l.fn.in_format (width_bits l.fn.width) l.scope l.gathered
      (map (text_at l.source) (drop l.token-index l.tokens))
      ≡ element_faults l.fn.in_format (width_bits l.fn.width) l.scope nothing_given (map (text_at l.source) l.tokens);
  small : IsSmall (width_bits l.fn.width) l.gathered;
}
