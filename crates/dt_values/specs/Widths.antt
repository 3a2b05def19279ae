-- How many bits a word of each width has.
use Rattle.std.specs.Prelude.{ℕ}
use Rattle.dt_values.specs.declared.width.Width.{Width}
use Rattle.dt_values.specs.declared.width.Width.TheVariants.{W16, W32, W64}

abbrev pub width_bits : Width → ℕ
width_bits W16 = 16
width_bits W32 = 32
width_bits W64 = 64
