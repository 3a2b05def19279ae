-- Programs without values whose runs are written out.
use Rattle.std.specs.Prelude.{ℕ, Bool, true, false, List, [], ◌∷◌, codes}
use Rattle.dt_values.specs.declared.ctype.CType.TheVariants.{Int}
use Rattle.dt_values.specs.declared.set.SetDef.{SetDef}
use Rattle.c_subset.specs.Examples.{nop_program}
use Rattle.c_subset.specs.Programs.{Name, Stmts, on_mask, extract, call, done, then, Program}
use Rattle.dt_host.specs.Hosts.{Answer, Call, script}
use Rattle.c_eval.specs.Runs.{Ended, Run, run_of}

abbrev pub nop_name : Name
nop_name = codes "nop"

abbrev pub nop_set : Name
nop_set = codes "decode0"

abbrev pub nop_format : Name
nop_format = codes "decode_Fmt_0"

abbrev pub nop_call : Call
nop_call = record { name = nop_name; values = [] }

-- the declarations of the program of the one pattern `nop`, with other statements
abbrev pub nop_program_with : Stmts → Program
nop_program_with statements = record nop_program { body = statements }

abbrev pub nop_call_then : Stmts → Stmts
nop_call_then rest = then (call nop_name nop_set) rest

abbrev pub nop_extraction_then : Stmts → Stmts
nop_extraction_then rest = then (extract nop_format nop_set) rest

abbrev pub nop_test_then : Stmts → Stmts
nop_test_then rest = then (on_mask 0xffffffff 0 (nop_extraction_then (nop_call_then done))) rest

-- the test of `nop` twice
abbrev pub two_tests : Program
two_tests = nop_program_with (nop_test_then (nop_test_then done))

-- two calls after one extraction
abbrev pub two_calls : Program
two_calls = nop_program_with (nop_extraction_then (nop_call_then (nop_call_then done)))

-- the set of `nop` has an argument, which its extraction doesn't assign
abbrev pub nop_set_with_argument : SetDef
nop_set_with_argument = record {
  name = nop_set;
  members = record { ctype = Int; name = codes "rd" } ∷ [];
  outside = false;
}

abbrev pub argument_program : Program
argument_program = record nop_program { sets = nop_set_with_argument ∷ [] }

-- a set that none of these programs gives a typedef
abbrev pub other_name : Name
other_name = codes "other"

abbrev pub other_set : SetDef
other_set = record { name = other_name; members = []; outside = true }

abbrev pub other_extraction : Stmts
other_extraction = then (extract nop_format other_name) done

-- its one format has that set
abbrev pub other_program : Program
other_program = record nop_program {
  extracts = record { format = nop_format; set = other_name; assigns = [] } ∷ [];
  body = other_extraction;
}

-- the run at a word with these outcomes and answers, from the first call on
abbrev pub scripted_run : Program → List SetDef → List Bool → List Answer → ℕ → Run ℕ
scripted_run program outside outcomes answers word = run_of program outside (script outcomes answers) word 0

abbrev pub run_with : List Call → Ended → ℕ → ℕ → Run ℕ
run_with calls ended tests state = record { calls = calls; ended = ended; tests = tests; state = state }
