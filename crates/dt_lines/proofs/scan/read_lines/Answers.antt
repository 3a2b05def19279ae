use Rattle.std.proofs.Common.{◌+◌, arith}
use Rattle.std.proofs.lemmas.Bool.Decides.{nat_tests}
use Rattle.dt_lines.specs.Gathering.{reading}
use Rattle.dt_lines.proofs.Continuing.{line_more, lines_last, line_last}
use Rattle.dt_lines.proofs.SoFar.{spans_later}
use Rattle.dt_lines.proofs.scan.read_lines.Goals as goal

pub loop-at-preserved : goal.loop-at-preserved
loop-at-preserved c = record {
  lines = line_more c.args.bytes.now c.loop-at.at c.line_end-end.result (c.loop-at.line + 1) (reading c.args.bytes.now c.loop-at.lines.items c.loop-at.gathered) (reading c.args.bytes.now _ c.in_ok-gathered.gathered) _ c.loop-at-test.true c.line_end-end.ensures c.in_ok-gathered.ensures.lines c.loop-at.invariant.lines;
  file = c.in_ok-gathered.ensures.file;
  spans = spans_later _ (omega arith) c.in_ok-gathered.ensures.spans;
  number = omega arith;
  place = omega arith;
}

pub returns-then-is_empty-clause-lines : goal.returns-then-is_empty-clause-lines
returns-then-is_empty-clause-lines c = lines_last c.args.bytes.now c.loop-at.at (c.loop-at.line + 1) _ _ c.loop-at.gathered (omega arith) (grind (arith, nat_tests)) c.loop-at.invariant.lines

pub returns-clause-lines : goal.returns-clause-lines
returns-clause-lines c = line_last c.args.bytes.now c.loop-at.at (c.loop-at.line + 1) _ _ _ c.loop-at.gathered (omega arith) (grind (arith, nat_tests)) (c.in_ok-end_line.ensures.lines c.args.bytes.now) c.loop-at.invariant.lines

pub returns-clause-file : goal.returns-clause-file
returns-clause-file c = c.in_ok-end_line.ensures.file _ c.loop-at.invariant.spans.placed c.loop-at.invariant.file
