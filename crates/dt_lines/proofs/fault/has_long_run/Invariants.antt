use Rattle.std.proofs.Common.{◌≡◌, ◌≤◌, drop, false}
use Rattle.std.specs.Prelude.{All, not}
use Rattle.std.specs.List.{between}
use Rattle.dt_values.specs.Names.{is_name_byte}
use Rattle.dt_lines.specs.Faults.{has_long_run}
use Rattle.dt_lines.proofs.fault.has_long_run.Given as goal

abbrev pub invariant-loop-at : goal.invariant-loop-at
invariant-loop-at l = record {
  start : l.start ≤ l.at;
  run : All (λ b. not (is_name_byte b) ≡ false) (between l.start l.at l.text);
  long : has_long_run (drop l.start l.text) ≡ has_long_run l.text;
}
