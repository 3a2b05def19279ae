-- What the code's values stand for.
use Rattle.std.specs.Prelude.{ℕ, ◌≡◌, ◌<◌, Bool, List, Option, Some, None, Result, Ok, Err, String, map}
use Rattle.std.specs.Borrow.{Bor}
use Rattle.std.specs.String.{string_bytes}
use Rattle.dt_words.specs.Rows as table
use Rattle.dt_words.specs.Roles as meant
use Rattle.dt_words.specs.declared.rows.Row.{Row}
use Rattle.dt_words.specs.declared.roles.Role.{Role}
use Rattle.dt_words.specs.declared.roles.Role.TheVariants as role
use Rattle.dt_words.specs.declared.roles.Next.{Next}
use Rattle.dt_words.specs.declared.roles.Next.TheVariants as next
use Rattle.dt_words.specs.declared.command.Command.{Command}
use Rattle.dt_words.specs.declared.command.Command.TheVariants as command
use Rattle.dt_words.specs.declared.read.WordFault.{WordFault}
use Rattle.dt_words.specs.declared.read.WordFault.TheVariants as fault
use Rattle.dt_words.specs.declared.usage.Usage.{Usage}

-- the bytes of each word
abbrev pub texts : {A : Type 0} → List (String A) → List (List ℕ)
texts words = map string_bytes words

abbrev pub row_seen : Row → table.Row
row_seen r = table.row r.name.now r.short.now r.kind

abbrev pub role_seen : Role → meant.Role
role_seen role.Ends = meant.Ends
role_seen (role.Operand text) = meant.Operand text.now
role_seen (role.Sets r value) = meant.Sets (row_seen r) value.now
role_seen (role.Asks r) = meant.Asks (row_seen r)
role_seen role.Unknown = meant.Unknown

abbrev pub next_seen : Next → meant.Next
next_seen next.Anything = meant.Anything
next_seen (next.ValueOf r) = meant.ValueOf (row_seen r)
next_seen next.Operands = meant.Operands

abbrev pub value_seen : Option (Bor (List ℕ)) → Option (List ℕ)
value_seen None = None
value_seen (Some value) = Some value.now

abbrev pub short_seen : Option (Bor Row × Bor (List ℕ)) → Option (table.Row × List ℕ)
short_seen None = None
short_seen (Some found) = Some (row_seen found.0.now, found.1.now)

abbrev pub setting_seen : Option (Bool × Bor (List ℕ)) → Option (Bool × List ℕ)
setting_seen None = None
setting_seen (Some setting) = Some (setting.0, setting.1.now)

-- a faulty word, and the number of an `eval`, is one of so many words
abbrev pub IsWithin : ℕ → Result Command WordFault → Type 0
IsWithin n (Ok (command.Gen options output files test)) = Unit {0}
IsWithin n (Ok (command.Eval text word place outcomes answers)) = place < n
IsWithin n (Err (fault.Bad usage None)) = Unit {0}
IsWithin n (Err (fault.Bad usage (Some place))) = place < n
IsWithin n (Err fault.NoMemory) = Unit {0}

-- an answer is what is due; where memory runs out, any is due
abbrev pub Answers : Result Command WordFault → Result Command (Usage × Option ℕ) → Type 0
Answers (Ok command) due = due ≡ Ok command
Answers (Err (fault.Bad usage place)) due = due ≡ Err (usage, place)
Answers (Err fault.NoMemory) due = Unit {0}
