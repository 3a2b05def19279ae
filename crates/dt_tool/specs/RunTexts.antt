-- What `eval` writes of a run (docs/COMMANDS.md, "What eval writes").
use Rattle.std.specs.Prelude.{ℕ, ◌*◌, ◌-◌, ◌^◌, ℤ, Bool, List, [], ◌∷◌, ◌++◌, Option, Some, None, codes, decimal, find}
use Rattle.std.specs.Prelude.{flat_map, option_and_then, unwrap_or}
use Rattle.std.specs.Fmt.{signed_decimal}
use Rattle.std.specs.Int.{to_be_bytes, w64}
use Rattle.std.specs.List.{zip}
use Rattle.dt_text.specs.Pieces.{text, name, pieces_text}
use Rattle.dt_values.specs.Types.{is_text}
use Rattle.dt_values.specs.Widths.{width_bits}
use Rattle.dt_values.specs.declared.ctype.Member.{Member}
use Rattle.dt_host.specs.Hosts.{Answer, Call, script}
use Rattle.c_subset.specs.Programs.{Name, Pattern, Program}
use Rattle.c_eval.specs.Lists.{members_at}
use Rattle.c_eval.specs.Loads.{load_of}
use Rattle.c_eval.specs.Runs.{Ended, ended_true, ended_false, stuck, Run, run_of}
use Rattle.dt_tool.specs.Messages.{line_end}

-- a number behind these words, in a line of its own
abbrev pub number_line : List ℕ → ℕ → List ℕ
number_line words n = pieces_text (text words ∷ name (decimal n) ∷ text (codes "\n") ∷ [])

-- an argument and its value
abbrev pub argument_text : Member × ℤ → List ℕ
argument_text argument = pieces_text
    (text (codes " ") ∷ name argument.0.name ∷ text (codes "=") ∷ text (signed_decimal argument.1) ∷ [])

-- arguments in the order of their set, each with its value
abbrev pub arguments_text : List Member → List ℤ → List ℕ
arguments_text members values = flat_map argument_text (zip members values)

abbrev pub pattern_named : List Pattern → Name → Option Pattern
pattern_named patterns called = find (λ p. is_text called p.name) patterns

-- the arguments of a pattern's set
abbrev pub members_of_pattern : Program → Name → List Member
members_of_pattern program called =
    unwrap_or
    (option_and_then (λ (p : Pattern). members_at program.sets p.set) (pattern_named program.patterns called))
    []

-- a call in a line of its own
abbrev pub call_line : Program → Call → List ℕ
call_line program call =
    pieces_text (name call.name ∷ [])
    ++ (arguments_text (members_of_pattern program call.name) call.values ++ line_end)

abbrev pub ended_line : Ended → List ℕ
ended_line ended_true = codes "result true\n"
ended_line ended_false = codes "result false\n"
ended_line stuck = codes "result stuck\n"

abbrev pub end_lines : Ended → ℕ → List ℕ
end_lines ended tests = pieces_text (text (ended_line ended) ∷ []) ++ number_line (codes "tests ") tests

-- the calls in order, how the run ended, and the number of tests
abbrev pub run_lines : {S : Type 0} → Program → Run S → List ℕ
run_lines program run = flat_map (call_line program) run.calls ++ end_lines run.ended run.tests

-- the run of a program at a word, where no set is declared outside of its text
abbrev pub run_with : List Bool → List Answer → Program → ℕ → Run ℕ
run_with outcomes answers program word = run_of program [] (script outcomes answers) word 0

-- the bytes of a word of so many bits, the most significant first, and zeros behind them
abbrev pub bytes_of_word : ℕ → ℕ → List ℕ
bytes_of_word bits word = to_be_bytes w64 (word * 2 ^ (64 - bits))

-- where the load function loads a word of these bytes, the run at that word behind the number of bytes that it took;
-- where it is stuck, no run
abbrev pub loaded_text : List Bool → List Answer → Program → Option (ℕ × ℕ) → List ℕ
loaded_text outcomes answers program None = end_lines stuck 0
loaded_text outcomes answers program (Some (word, bytes)) =
    number_line (codes "loaded ") bytes ++ run_lines program (run_with outcomes answers program word)

-- with a load function the word stands for the bytes at the place of an instruction
abbrev pub run_text : List Bool → List Answer → Program → ℕ → List ℕ
run_text outcomes answers program word = of_load program.load
  where
    of_load : {A : Type 0} → Option A → List ℕ
    of_load None = run_lines program (run_with outcomes answers program word)
    of_load (Some block) =
        loaded_text outcomes answers program (load_of program (bytes_of_word (width_bits program.width) word))
