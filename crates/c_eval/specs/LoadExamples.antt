-- Load functions whose runs are written out.
use Rattle.std.specs.Prelude.{ℕ, List, [], ◌∷◌, Option, Some, None}
use Rattle.dt_values.specs.declared.width.Width.{Width}
use Rattle.c_subset.specs.Examples.{nop_program}
use Rattle.c_subset.specs.Programs.{LoadBlock, load_block, no_switch, load_switch, LoadCases, no_load_case}
use Rattle.c_subset.specs.Programs.{or_load_case, Program}
use Rattle.c_eval.specs.Loads.{load_of}

abbrev pub loading : Width → LoadBlock → Program
loading width block = record nop_program { width = width; load = Some block }

-- the bytes 1 to 8
abbrev pub eight_bytes : List ℕ
eight_bytes = 1 ∷ 2 ∷ 3 ∷ 4 ∷ 5 ∷ 6 ∷ 7 ∷ 8 ∷ []

abbrev pub loaded_by : Width → LoadBlock → Option (ℕ × ℕ)
loaded_by width block = load_of (loading width block) eight_bytes

-- bytes from one to another, and no switch behind them
abbrev pub bytes_alone : ℕ → ℕ → LoadBlock
bytes_alone from to = load_block (Some (from, to)) no_switch

abbrev pub loads_none : LoadBlock
loads_none = load_block None no_switch

-- two bytes, and then switch (insn & MASK) { .. }
abbrev pub two_bytes_then : ℕ → LoadCases → LoadBlock
two_bytes_then mask cases = load_block (Some (0, 2)) (load_switch mask cases)

abbrev pub one_case : ℕ → LoadBlock → LoadCases
one_case value block = or_load_case value block no_load_case
