use Rattle.std.proofs.Common.{◌≡◌, true, false, ap, get_or, arith}
use Rattle.std.specs.Prelude.{not}
use Rattle.dt_values.specs.Names.{is_name_byte}
use Rattle.dt_lines.proofs.Pieces.{none_more, none_yet}
use Rattle.dt_lines.proofs.LongNames.{ends_run, run_found, run_passed, run_last}
use Rattle.dt_lines.proofs.fault.has_long_run.Goals as goal

pub loop-at-preserved-then-is_name_byte : goal.loop-at-preserved-then-is_name_byte
loop-at-preserved-then-is_name_byte c =
    let name : is_name_byte (get_or c.args.text.now c.loop-at.at 0) ≡ true = cc in
    record {
      start = omega arith;
      run = none_more ends_run c.args.text.now c.loop-at.start c.loop-at.at 0 c.loop-at.invariant.start (omega arith) c.loop-at.invariant.run (ap not name);
      long = c.loop-at.invariant.long;
    }

pub returns-then-at-start-gt-LONGEST_NAME : goal.returns-then-at-start-gt-LONGEST_NAME
returns-then-at-start-gt-LONGEST_NAME c =
    let other : is_name_byte (get_or c.args.text.now c.loop-at.at 0) ≡ false = cc in
    run_found c.args.text.now c.loop-at.start c.loop-at.at 0 _ c.loop-at.invariant.start (omega arith) c.loop-at.invariant.run (ap not other) (omega arith) c.loop-at.invariant.long

pub loop-at-preserved : goal.loop-at-preserved
loop-at-preserved c =
    let other : is_name_byte (get_or c.args.text.now c.loop-at.at 0) ≡ false = cc in
    record {
      start = omega arith;
      run = none_yet ends_run c.args.text.now _;
      long = run_passed c.args.text.now c.loop-at.start c.loop-at.at 0 _ c.loop-at.invariant.start (omega arith) c.loop-at.invariant.run (ap not other) (omega arith) c.loop-at.invariant.long;
    }

pub returns : goal.returns
returns c = run_last c.args.text.now c.loop-at.start c.loop-at.at _ c.loop-at.invariant.start (omega arith) (omega arith) c.loop-at.invariant.run c.loop-at.invariant.long
