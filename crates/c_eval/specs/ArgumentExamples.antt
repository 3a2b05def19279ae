-- Programs with values whose runs are written out.
use Rattle.std.specs.Prelude.{ℕ, true, false, List, [], ◌∷◌, ℤ, pos, Some, None, codes}
use Rattle.dt_values.specs.declared.ctype.CType.TheVariants.{Int, I8}
use Rattle.dt_values.specs.declared.width.Width.{Width}
use Rattle.dt_values.specs.declared.width.Width.TheVariants.{W32}
use Rattle.dt_values.specs.declared.set.SetDef.{SetDef}
use Rattle.c_exprs.specs.Exprs.{argument, Term, constant, segment, function, Assignment}
use Rattle.c_subset.specs.Programs.{Name, Stmt, extract, assign, call, Extraction, Program}
use Rattle.c_subset.specs.View.{stmts_from}
use Rattle.dt_host.specs.Examples.{imm, member_of, rd, size_name}
use Rattle.dt_host.specs.Hosts.{Call}
use Rattle.c_eval.specs.Examples.{run_with, scripted_run}
use Rattle.c_eval.specs.ExprExamples.{extract_bits, extract_low, few_answers}
use Rattle.c_eval.specs.Runs.{ended_true, ended_false, stuck, Run}

-- ---- sets and patterns: lb has `int rd; int8_t imm;`, and jr has `int rd;`
abbrev pub load : Name
load = codes "load"

abbrev pub jump : Name
jump = codes "jump"

abbrev pub lb : Name
lb = codes "lb"

abbrev pub jr : Name
jr = codes "jr"

-- no format, pattern or argument has this name, and no set that has a typedef
abbrev pub unknown : Name
unknown = codes "unknown"

abbrev pub load_set : SetDef
load_set = record { name = load; members = member_of Int rd ∷ member_of I8 imm ∷ []; outside = false }

abbrev pub jump_set : SetDef
jump_set = record { name = jump; members = member_of Int rd ∷ []; outside = false }

abbrev pub unknown_set : SetDef
unknown_set = record { name = unknown; members = member_of Int rd ∷ []; outside = true }

-- ---- extractions for the set `load`
abbrev pub to_argument : Name → Term → Assignment
to_argument name e = record { argument = name; value = e }

-- bits 7 to 11, and bits 24 to 31
abbrev pub rd_bits : Assignment
rd_bits = to_argument rd (extract_bits 7 5)

abbrev pub imm_bits : Assignment
imm_bits = to_argument imm (extract_bits 24 8)

-- the low 8 bits of what an argument holds, as an extraction reads them, and as the decoder does
abbrev pub low_bits : Name → Term
low_bits name = extract_low name 8

abbrev pub live_bits : Name → Term
live_bits name = segment false (argument (Some load) name) 0 8

abbrev pub load_extraction : Name → List Assignment → Extraction
load_extraction format assigns = record { format = format; set = load; assigns = assigns }

abbrev pub both : Name
both = codes "both"

abbrev pub rd_alone : Name
rd_alone = codes "rd_alone"

-- rd is assigned what imm holds: after imm, and before it
abbrev pub imm_first : Name
imm_first = codes "imm_first"

abbrev pub imm_last : Name
imm_last = codes "imm_last"

-- and as only the decoder reads it
abbrev pub names_set : Name
names_set = codes "names_set"

abbrev pub to_unknown : Name
to_unknown = codes "to_unknown"

abbrev pub load_extractions : List Extraction
load_extractions =
    load_extraction both (rd_bits ∷ imm_bits ∷ []) ∷ load_extraction rd_alone (rd_bits ∷ [])
    ∷ load_extraction imm_first (imm_bits ∷ to_argument rd (low_bits imm) ∷ [])
    ∷ load_extraction imm_last (to_argument rd (low_bits imm) ∷ imm_bits ∷ [])
    ∷ load_extraction names_set (imm_bits ∷ to_argument rd (live_bits imm) ∷ [])
    ∷ load_extraction to_unknown (to_argument unknown (extract_bits 7 5) ∷ []) ∷ []

-- ---- statements
abbrev pub extract_load : Name → Stmt
extract_load format = extract format load

-- u.f_load.NAME = EXPR;
abbrev pub set_to : Name → Term → Stmt
set_to name e = assign load name e

abbrev pub set_number : Name → ℤ → Stmt
set_number name z = set_to name (constant z)

-- u.f_load.rd = ex_size(ctx);
abbrev pub set_size : Stmt
set_size = set_to rd (function size_name)

-- u.f_jump.rd = 1; and the same of the set that has no typedef
abbrev pub set_jump : Stmt
set_jump = assign jump rd (constant (pos 1))

abbrev pub set_unknown : Stmt
set_unknown = assign unknown rd (constant (pos 1))

abbrev pub call_lb : Stmt
call_lb = call lb load

abbrev pub call_jr : Stmt
call_jr = call jr jump

-- ---- programs and runs
abbrev pub program_of : Width → List Stmt → Program
program_of width statements = record {
  width = width;
  sets = load_set ∷ jump_set ∷ [];
  prefix = Some (record { name = codes "trans"; is_static = true });
  patterns = record { name = lb; set = load } ∷ record { name = jr; set = jump } ∷ [];
  extracts = load_extractions;
  decoder = codes "decode";
  decoder_static = true;
  union_sets = load ∷ jump ∷ [];
  body = stmts_from statements;
  load = None;
}

-- in the word bits 7 to 11 are 21, and bits 24 to 31 are 255
abbrev pub run_at_width : Width → List Stmt → Run ℕ
run_at_width width statements = scripted_run (program_of width statements) [] [] [] 0xff000a80

abbrev pub run_with_32 : List Stmt → Run ℕ
run_with_32 statements = run_at_width W32 statements

-- the same, where the first call is answered with false, and functions by those few answers
abbrev pub run_after_false : List Stmt → Run ℕ
run_after_false statements = scripted_run (program_of W32 statements) [] (false ∷ []) few_answers 0xff000a80

-- and where the set without a typedef is declared outside
abbrev pub run_with_set : List Stmt → Run ℕ
run_with_set statements = scripted_run (program_of W32 statements) (unknown_set ∷ []) [] [] 0xff000a80

abbrev pub lb_call : ℤ → ℤ → Call
lb_call rd_value imm_value = record { name = lb; values = rd_value ∷ imm_value ∷ [] }

-- one call, which is answered with true; no call; and stuck without one
abbrev pub one_call : ℤ → ℤ → Run ℕ
one_call rd_value imm_value = run_with (lb_call rd_value imm_value ∷ []) ended_true 0 1

abbrev pub no_call : Run ℕ
no_call = run_with [] ended_false 0 0

abbrev pub stuck_run : Run ℕ
stuck_run = run_with [] stuck 0 0
