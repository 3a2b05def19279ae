-- What is wrong with a word, and the first faulty one.
use Rattle.std.specs.Prelude.{ℕ, ◌+◌, ◌==◌, Bool, List, [], ◌∷◌, length, slice_get, Option, Some, None, if◌then◌else◌}
use Rattle.dt_words.specs.Rows.{operands_of}
use Rattle.dt_words.specs.Roles.{Role, Ends, Operand, Sets, Asks, Unknown}
use Rattle.dt_words.specs.Values.{value_fault}
use Rattle.dt_words.specs.declared.rows.ValueKind.{ValueKind}
use Rattle.dt_words.specs.declared.rows.Verb.{Verb}
use Rattle.dt_words.specs.declared.usage.Usage.{Usage}
use Rattle.dt_words.specs.declared.usage.Usage.TheVariants as usage

-- what is wrong with an operand where this is what it must be, if one may stand there
abbrev pub operand_fault : Option ValueKind → List ℕ → Option Usage
operand_fault None text = Some usage.U7
operand_fault (Some kind) text = value_fault kind text

-- what is wrong with a word that n operands come before and that is the last or not
abbrev pub word_fault : Verb → ℕ → Bool → Role → Option Usage
word_fault verb n last Ends = None
word_fault verb n last (Operand text) = operand_fault (slice_get (operands_of verb) n) text
word_fault verb n last (Sets row text) = value_fault row.kind text
word_fault verb n last (Asks row) = if last then Some usage.U3 else None
word_fault verb n last Unknown = Some usage.U2

-- how many operands a word is
abbrev pub operand_count : Role → ℕ
operand_count Ends = 0
operand_count (Operand text) = 1
operand_count (Sets row text) = 0
operand_count (Asks row) = 0
operand_count Unknown = 0

-- this fault at this place, or else what comes later
abbrev pub at_place : ℕ → Option Usage → Option (Usage × ℕ) → Option (Usage × ℕ)
at_place place None later = later
at_place place (Some usage) later = Some (usage, place)

-- the first faulty word, with its place; the first of these words has this place, and n operands come before it
abbrev pub first_fault : Verb → ℕ → ℕ → List Role → Option (Usage × ℕ)
first_fault verb place n [] = None
first_fault verb place n (role ∷ roles) =
    at_place
    place
    (word_fault verb n (length roles == 0) role)
    (first_fault verb (place + 1) (n + operand_count role) roles)
