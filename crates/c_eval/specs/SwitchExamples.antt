-- Programs with a switch whose runs are written out.
use Rattle.std.specs.Prelude.{ℕ, []}
use Rattle.c_subset.specs.Programs.{Stmts, on_mask, switch, done, then, Cases, no_case, or_case}
use Rattle.c_eval.specs.Examples.{nop_call_then, nop_extraction_then, nop_program_with, scripted_run}
use Rattle.c_eval.specs.Runs.{Run}

-- a block that calls, one that is stuck, and one without statements
abbrev pub calling : Stmts
calling = nop_extraction_then (nop_call_then done)

abbrev pub sticking : Stmts
sticking = nop_call_then done

-- switch (insn & 3) { .. }
abbrev pub switch_then : Cases → Stmts → Stmts
switch_then cases rest = then (switch 3 cases) rest

abbrev pub two_cases : ℕ → Stmts → ℕ → Stmts → Cases
two_cases value block other others = or_case value block (or_case other others no_case)

abbrev pub run_switch : Cases → ℕ → Run ℕ
run_switch cases word = scripted_run (nop_program_with (switch_then cases done)) [] [] [] word

-- the same in if ((insn & 12) == 4) { .. }
abbrev pub run_nested : Cases → ℕ → Run ℕ
run_nested cases word =
    scripted_run (nop_program_with (then (on_mask 12 4 (switch_then cases done)) done)) [] [] [] word

-- a switch, and behind it a call
abbrev pub run_before_call : Cases → ℕ → Run ℕ
run_before_call cases word = scripted_run (nop_program_with (switch_then cases calling)) [] [] [] word
