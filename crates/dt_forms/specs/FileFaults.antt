-- What pattern files break first: faults of whole files, then the rules of lines (docs/COMMANDS.md, "Rules").
use Rattle.std.specs.Prelude.{ℕ, ◌≡◌, ◌+◌, ◌<◌, List, [], ◌∷◌, length, get_or, Option, None}
use Rattle.std.specs.Option.{option_map, option_or}
use Rattle.dt_lines.specs.declared.limits.TheConstants.{MOST_LINES}
use Rattle.dt_lines.specs.Faults.{FileFault, too_many_lines, long_name, line_fault}
use Rattle.dt_lines.specs.declared.fault.LineFault.{LineFault}
use Rattle.dt_lines.specs.declared.fault.LineFault.TheVariants as of_lines
use Rattle.dt_fields.specs.declared.fault.Detail.TheVariants as detail
use Rattle.dt_fields.specs.declared.rule.Rule.{Rule}
use Rattle.dt_fields.specs.declared.rule.Rule.TheVariants as rule
use Rattle.dt_forms.specs.declared.fault.ModelFault.{ModelFault}
use Rattle.dt_forms.specs.declared.fault.ModelFault.TheVariants as of_files
use Rattle.dt_fields.specs.Faults.{nothing}
use Rattle.dt_model.specs.declared.options.Options.{Options}
use Rattle.dt_forms.specs.Rules.{Fault, first_fault}

-- in the file at this place: K1 at the first line that is one too many, K2 at the line of a long name
abbrev pub fault_in_file : ℕ → FileFault → Fault
fault_in_file file too_many_lines = record { file = file; line = MOST_LINES + 1; broken = (rule.K1, nothing) }
fault_in_file file (long_name line) = record { file = file; line = line; broken = (rule.K2, nothing) }

-- K1 or K2 of the file at this place, at the least line that breaks one
abbrev pub file_fault : ℕ → List ℕ → Option Fault
file_fault file text = option_map (fault_in_file file) (line_fault text)

-- that of the first file that breaks one, of files of which the first has this place
abbrev pub fault_of_files : ℕ → List (List ℕ) → Option Fault
fault_of_files file [] = None
fault_of_files file (text ∷ texts) = option_or (file_fault file text) (fault_of_files (file + 1) texts)

-- what files break first: K1 and K2 come before all rules of lines
abbrev pub first_broken : Options → List (List ℕ) → Option Fault
first_broken options texts = option_or (fault_of_files 0 texts) (first_fault options texts)

-- no file has too many lines or a long name
abbrev pub HaveNoFileFault : List (List ℕ) → Type 0
HaveNoFileFault texts =
    (place : ℕ) (text : List ℕ) → place < length texts → file_fault place (get_or texts place text) ≡ None

-- how a reader answers a rule that a whole line breaks, and a fault of the lines of the file at this place
abbrev pub line_broken : ℕ → ℕ → Rule → ModelFault
line_broken file line broken =
    of_files.Broken (record { file = file; line = line; rule = broken; detail = detail.None })

abbrev pub model_fault : ℕ → LineFault → ModelFault
model_fault file of_lines.TooManyLines = line_broken file (MOST_LINES + 1) rule.K1
model_fault file (of_lines.LongName line) = line_broken file line rule.K2
model_fault file of_lines.NoMemory = of_files.NoMemory
