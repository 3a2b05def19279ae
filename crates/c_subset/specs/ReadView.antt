-- What the readers' values stand for: their scope, and a load function's switch.
use Rattle.std.specs.Prelude.{ℕ, List, Option, option_map, map, Vec}
use Rattle.std.specs.declared.alloc.Global.{Global}
use Rattle.c_subset.specs.Programs.{LoadBlock}
use Rattle.c_subset.specs.StmtParsing.{Scope}
use Rattle.c_subset.specs.View.{load_of}
use Rattle.c_subset.specs.declared.load.LoadBlock.{LoadBlock as MadeLoad}
use Rattle.c_subset.specs.declared.stmts.Scope.{Scope as Made}

abbrev pub scope_of : Made → Scope
scope_of s = record { width = s.width; decoder = s.decoder; prefix = s.prefix }

abbrev pub load_case_of : ℕ × MadeLoad → ℕ × LoadBlock
load_case_of c = (c.0, load_of c.1)

abbrev pub load_switch_of : ℕ × Vec (ℕ × MadeLoad) Global → ℕ × List (ℕ × LoadBlock)
load_switch_of x = (x.0, map load_case_of x.1.items)

abbrev pub maybe_switch_of : Option (ℕ × Vec (ℕ × MadeLoad) Global) → Option (ℕ × List (ℕ × LoadBlock))
maybe_switch_of = option_map load_switch_of
