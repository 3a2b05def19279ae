-- The exit status of each outcome (docs/COMMANDS.md).
use Rattle.std.specs.Prelude.{ℕ, Bool, false, Result, Ok, Err, if◌then◌else◌}
use Rattle.dt_words.specs.declared.command.Command.{Command}
use Rattle.dt_words.specs.declared.command.Command.TheVariants as command
use Rattle.dt_tool.specs.declared.status.Outcome.{Outcome}
use Rattle.dt_tool.specs.declared.status.Outcome.TheVariants as outcomes

-- under a test for errors, the numbers of success and of a refusal change places
abbrev pub exit_status : Bool → Outcome → ℕ
exit_status test outcomes.Done = if test then 1 else 0
exit_status test outcomes.Refused = if test then 0 else 1
exit_status test outcomes.Usage = 2
exit_status test outcomes.ReadFault = 3
exit_status test outcomes.WriteFault = 4
exit_status test outcomes.NoMemory = 5

-- whether the words ask for a test for errors
abbrev pub tests_errors : {F : Type 0} → Result Command F → Bool
tests_errors (Err fault) = false
tests_errors (Ok (command.Gen options output files test)) = test
tests_errors (Ok (command.Eval text word place outcomes answers)) = false
