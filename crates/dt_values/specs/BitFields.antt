-- Bits of a number, numbers of so many bits, and numbers modulo a power of two (QEMU, include/qemu/bitops.h).
use Rattle.std.specs.Prelude.{ℕ, ◌+◌, ◌*◌, ◌/◌, ◌%◌, ◌^◌, Bool, nat_le, ℤ, pos, ◌-ℤ◌, unsigned_abs, if◌then◌else◌}
use Rattle.std.specs.Int.{int_rem_euclid}

-- the bits of v from `start` up, `length` of them
abbrev pub bits_at : ℕ → ℕ → ℕ → ℕ
bits_at v start length = v / 2 ^ start % 2 ^ length

-- the highest of n bits is 1
abbrev pub has_top_bit : ℕ → ℕ → Bool
has_top_bit n x = nat_le (2 ^ n) (2 * x)

-- the signed number that n bits are: where the highest is 1, 2 to their number is taken off
abbrev pub signed : ℕ → ℕ → ℤ
signed n x = if has_top_bit n x then pos x -ℤ pos (2 ^ n) else pos x

-- v with the low `length` bits of f in the place of its own from `start` up: the bits above, the new ones, and those
-- below
abbrev pub deposited : ℕ → ℕ → ℕ → ℕ → ℕ
deposited v start length f = v / 2 ^ (start + length) * 2 ^ (start + length) + f % 2 ^ length * 2 ^ start + v % 2 ^ start

-- z modulo 2 ^ n, which is at least 0
abbrev pub residue : ℕ → ℤ → ℕ
residue n z = unsigned_abs (int_rem_euclid z (pos (2 ^ n)))
