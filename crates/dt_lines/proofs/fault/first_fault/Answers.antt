use Rattle.std.proofs.Common.{arith, ◌+◌, ◌∙◌, sym}
use Rattle.dt_lines.proofs.LongNames.{fault_found, fault_passed}
use Rattle.dt_lines.proofs.fault.first_fault.Goals as goal

pub returns-then-is_some : goal.returns-then-is_some
returns-then-is_some c =
    fault_found c.args.bytes.now c.loop-at.at c.line_end-end.result (c.loop-at.line + 1) c.fault_of-found.result _ c.loop-at-test.true c.line_end-end.ensures
    c.fault_of-found.ensures (sym c.is_some.ensures ∙ c.if-is_some.true) c.loop-at.invariant.fault

pub loop-at-preserved : goal.loop-at-preserved
loop-at-preserved c = record {
  fault = fault_passed c.args.bytes.now c.loop-at.at c.line_end-end.result (c.loop-at.line + 1) c.fault_of-found.result _ c.loop-at-test.true c.line_end-end.ensures
      c.fault_of-found.ensures (sym c.is_some.ensures ∙ c.if-is_some.false) c.loop-at.invariant.fault;
  number = omega arith;
  place = omega arith;
}
