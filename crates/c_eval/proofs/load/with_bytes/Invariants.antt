use Rattle.std.proofs.Common.{◌≡◌, ◌-◌, ◌≤◌}
use Rattle.dt_values.specs.Widths.{width_bits}
use Rattle.c_eval.specs.Loads.{with_bytes}
use Rattle.c_eval.proofs.load.with_bytes.Given as goal

abbrev pub invariant-loop-j : goal.invariant-loop-j
invariant-loop-j l = record {
  within : l.j ≤ l.to;
  same : with_bytes (width_bits l.width) l.input l.j (l.to - l.j) l.word
      ≡ with_bytes (width_bits l.width) l.input l.from (l.to - l.from) l.fn.word;
}
