use Rattle.std.proofs.Common.{length, sym, ◌∙◌, arith, []}
use Rattle.std.proofs.lemmas.List.Sums.{position_or_len_is}
use Rattle.dt_values.specs.Widths.{width_bits}
use Rattle.dt_model.specs.declared.format.Format.{Format}
use Rattle.dt_patterns.specs.Inference.{fits_pattern}
use Rattle.dt_patterns.proofs.infer.matching_format.Goals as goal

pub returns-then-is_fitting : goal.returns-then-is_fitting
returns-then-is_fitting c =
    let d : Format = record {
      name = [];
      set = 0;
      bits = 0;
      fixed_bits = 0;
      fixed_mask = 0;
      ignored = 0;
      values =
          [];
    } in
    sym (position_or_len_is (fits_pattern (width_bits c.args.width) c.args.set c.args.values.now) c.args.formats.now
    c.loop-place.place d (omega arith) (c.loop-place.invariant d)
    (λ h. sym (c.is_fitting.ensures d) ∙ c.if-is_fitting.true))

pub returns : goal.returns
returns c =
    let d : Format = record {
      name = [];
      set = 0;
      bits = 0;
      fixed_bits = 0;
      fixed_mask = 0;
      ignored = 0;
      values =
          [];
    } in
    c.count.ensures
    ∙ sym (position_or_len_is (fits_pattern (width_bits c.args.width) c.args.set c.args.values.now) c.args.formats.now
    (length c.args.formats.now) d (omega arith)
    (λ k h. c.loop-place.invariant d k (omega arith)) (λ h. absurd (omega arith)))
