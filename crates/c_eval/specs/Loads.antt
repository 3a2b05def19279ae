-- What the load function of a program does (docs/C_SUBSET.md, "The meaning of a load").
use Rattle.std.specs.Prelude.{ℕ, zero, suc, ◌+◌, ◌-◌, ◌*◌, ◌/◌, ◌==◌, ◌&&◌, bit_and, nat_le, nat_lt, Bool, List, cond}
use Rattle.std.specs.Prelude.{get_or, Option, Some, None, option_and_then, option_map, if◌then◌else◌}
use Rattle.dt_values.specs.BitFields.{deposited}
use Rattle.dt_values.specs.Widths.{width_bits}
use Rattle.c_subset.specs.Programs.{LoadBlock, load_block, LoadSwitch, no_switch, load_switch, LoadCases}
use Rattle.c_subset.specs.Programs.{no_load_case, or_load_case, Program}

-- the word so far, and how many bytes are loaded
pub record Loaded : Type 0 where
  pub word : ℕ
  pub bytes : ℕ

-- byte j of the input goes into a word of w bits at bits w - 8 * (j + 1) and up
abbrev pub with_byte : ℕ → List ℕ → ℕ → ℕ → ℕ
with_byte w input j word = deposited word (w - 8 * (j + 1)) 8 (get_or input j 0)

-- so many bytes, from the first of them on
abbrev pub with_bytes : ℕ → List ℕ → ℕ → ℕ → ℕ → ℕ
with_bytes w input from zero word = word
with_bytes w input from (suc n) word = with_bytes w input (from + 1) n (with_byte w input from word)

-- after what is loaded so far comes at least one byte, and the word has room for it
abbrev pub can_load : ℕ → ℕ → ℕ → ℕ → Bool
can_load w loaded from to = (from == loaded) && (nat_lt from to && nat_le to (w / 8))

-- None where it is stuck
abbrev pub after_load : ℕ → List ℕ → Option (ℕ × ℕ) → Loaded → Option Loaded
after_load w input None at = Some at
after_load w input (Some (from, to)) at =
    if can_load w at.bytes from to
    then Some (record { word = with_bytes w input from (to - from) at.word; bytes = to })
    else None

-- a block that is run ends with `return insn;`
abbrev mutual
  pub after_block : ℕ → List ℕ → LoadBlock → Loaded → Option Loaded
  after_block w input (load_block bytes more) at =
      option_and_then (after_switch w input more) (after_load w input bytes at)

  pub after_switch : ℕ → List ℕ → LoadSwitch → Loaded → Option Loaded
  after_switch w input no_switch at = Some at
  after_switch w input (load_switch mask cases) at = after_case w input (bit_and at.word mask) cases at

  -- the block of the first case of this value, if there is one
  pub after_case : ℕ → List ℕ → ℕ → LoadCases → Loaded → Option Loaded
  after_case w input value no_load_case at = Some at
  after_case w input value (or_load_case v block cases) at =
      cond (value == v) (after_block w input block at) (after_case w input value cases at)

abbrev pub nothing_loaded : Loaded
nothing_loaded = record { word = 0; bytes = 0 }

abbrev pub pair_of : Loaded → ℕ × ℕ
pair_of l = (l.word, l.bytes)

-- the word that is loaded of these bytes, and how many of them; None where it is stuck, or there is no load function
abbrev pub load_of : Program → List ℕ → Option (ℕ × ℕ)
load_of program input =
    option_map pair_of
    (option_and_then (λ block. after_block (width_bits program.width) input block nothing_loaded) program.load)
