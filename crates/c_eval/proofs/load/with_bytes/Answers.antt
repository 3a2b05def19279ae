use Rattle.std.proofs.Common.{◌≡◌, ◌+◌, ◌-◌, suc, ap, sym, ◌∙◌, arith}
use Rattle.dt_values.specs.Widths.{width_bits}
use Rattle.c_eval.specs.Loads.{with_bytes}
use Rattle.c_eval.proofs.load.with_bytes.Goals as goal

pub loop-j-preserved : goal.loop-j-preserved
loop-j-preserved c =
    let w = width_bits c.args.width in
    let input = c.args.input.now in
    let j = c.loop-j.j in
    let word = c.loop-j.word in
    let below = c.loop-j-test.true in
    let step : c.args.to - j ≡ suc (c.args.to - (j + 1)) = omega arith in
    record {
      within = omega arith;
      same = ap (with_bytes w input (j + 1) (c.args.to - (j + 1))) c.with_byte-word.ensures
          ∙ sym (ap (λ n. with_bytes w input j n word) step) ∙ c.loop-j.invariant.same;
    }
