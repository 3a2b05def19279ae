use Rattle.std.proofs.Common.{length, ap, arith}
use Rattle.dt_lines.proofs.Pieces.{physical_more}
use Rattle.dt_lines.proofs.physical.line_count.Goals as goal

pub loop-at-preserved : goal.loop-at-preserved
loop-at-preserved c =
    let more = physical_more c.args.bytes.now c.loop-at.at c.line_end-end.result c.loop-at-test.true c.line_end-end.ensures in
    record {
      count = omega (arith, ap length more);
      number = omega arith;
      place = omega arith;
    }
