-- No width is above 64 bits.
use Rattle.std.proofs.Common.{◌≤◌, arith}
use Rattle.dt_values.specs.declared.width.Width.{Width}
use Rattle.dt_values.specs.declared.width.Width.TheVariants.{W16, W32, W64}
use Rattle.dt_values.specs.Widths.{width_bits}

pub width_bound : (w : Width) → width_bits w ≤ 64
width_bound W16 = omega arith
width_bound W32 = omega arith
width_bound W64 = omega arith
