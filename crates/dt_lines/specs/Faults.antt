-- What makes a file's lines too many or too long to read (docs/LANGUAGE.md).
use Rattle.std.specs.Prelude.{ℕ, ◌+◌, ◌==◌, Bool, not, nat_lt, if◌then◌else◌, List, [], ◌∷◌, length, Option, Some, None}
use Rattle.std.specs.List.{slice_split, list_any}
use Rattle.std.specs.Option.{option_or}
use Rattle.dt_values.specs.Names.{is_name_byte}
use Rattle.dt_values.specs.declared.name.TheConstants.{LONGEST_NAME}
use Rattle.dt_lines.specs.Lines.{physical_lines, before_comment}
use Rattle.dt_lines.specs.declared.limits.TheConstants.{MOST_LINES}
use Rattle.dt_lines.specs.declared.fault.LineFault.{LineFault}
use Rattle.dt_lines.specs.declared.fault.LineFault.TheVariants as faults

-- too many physical lines, or a line by its number with too long a name
pub data FileFault : Type 0 where
  too_many_lines : FileFault
  long_name : ℕ → FileFault

-- more name bytes in a row than a name has
abbrev pub has_long_run : List ℕ → Bool
has_long_run text = list_any (λ run. nat_lt LONGEST_NAME (length run)) (slice_split (λ b. not (is_name_byte b)) text)

-- so in some token: no white space is a name byte, and a comment is no token
abbrev pub has_long_name : List ℕ → Bool
has_long_name text = has_long_run (before_comment text)

-- the fault of a physical line, by its number
abbrev pub fault_of : ℕ → List ℕ → Option FileFault
fault_of number text =
    if number == MOST_LINES + 1 then Some too_many_lines
    else if has_long_name text then Some (long_name number)
    else None

-- the fault of the first line that has one
abbrev pub fault_from : ℕ → List (List ℕ) → Option FileFault
fault_from number [] = None
fault_from number (text ∷ texts) = option_or (fault_of number text) (fault_from (number + 1) texts)

abbrev pub line_fault : List ℕ → Option FileFault
line_fault bytes = fault_from 1 (physical_lines bytes)

-- the variant that stands for a fault
abbrev pub variant_of : FileFault → LineFault
variant_of too_many_lines = faults.TooManyLines
variant_of (long_name line) = faults.LongName line
