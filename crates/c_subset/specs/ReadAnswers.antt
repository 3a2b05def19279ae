-- What the steps of the reader answer.
use Rattle.std.specs.Prelude.{◌≡◌, ℕ, List, Result, Ok, Err, option_map}
use Rattle.c_subset.specs.Distinct.{HasDistinctNames}
use Rattle.c_subset.specs.ProgramParsing.{Defined}
use Rattle.c_subset.specs.Programs.{Program}
use Rattle.c_subset.specs.Spells.{Spells, SpellsNone}
use Rattle.c_subset.specs.View.{load_of, program_of, stmts_of}
use Rattle.c_subset.specs.declared.fault.CFault.{CFault}
use Rattle.c_subset.specs.declared.fault.CFault.TheVariants as faults
use Rattle.c_subset.specs.declared.program.Program.{Program as Made}
use Rattle.c_subset.specs.declared.read.Defined.{Defined as MadeDefined}

-- the program of a text that isn't too deep, or that there is none
abbrev pub IsRead : List ℕ → Result Made CFault → Type 0
IsRead text (Ok p) = Spells text (program_of p)
IsRead text (Err faults.NotSubset) = SpellsNone text
IsRead text (Err faults.TooDeep) = ⊥
IsRead text (Err faults.NoMemory) = Unit {0}

-- this program, whose names differ, or that some don't
abbrev pub IsDistinct : Program → Result Made CFault → Type 0
IsDistinct program (Ok p) = (program_of p ≡ program) × HasDistinctNames program
IsDistinct program (Err faults.NotSubset) = ¬ HasDistinctNames program
IsDistinct program (Err faults.TooDeep) = ⊥
IsDistinct program (Err faults.NoMemory) = Unit {0}

abbrev pub defined_seen : MadeDefined → Defined
defined_seen d = (d.union_sets.items, (stmts_of d.body.items, option_map load_of d.load))
