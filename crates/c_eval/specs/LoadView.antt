-- What the load function makes of a word, as it lies in memory.
use Rattle.std.specs.Prelude.{ℕ, List, map}
use Rattle.c_subset.specs.Programs.{LoadBlock as Block, LoadCases}
use Rattle.c_subset.specs.View.{load_of, load_cases_from}
use Rattle.c_subset.specs.declared.load.LoadBlock.{LoadBlock}
use Rattle.c_eval.specs.Loads.{Loaded}
use Rattle.c_eval.specs.declared.load.Loaded.{Loaded as Made}

abbrev pub loaded_seen : Made → Loaded
loaded_seen l = record { word = l.word; bytes = l.bytes }

abbrev pub load_case_of : ℕ × LoadBlock → ℕ × Block
load_case_of c = (c.0, load_of c.1)

abbrev pub load_cases_of : List (ℕ × LoadBlock) → LoadCases
load_cases_of cs = load_cases_from (map load_case_of cs)
