-- Where no word is faulty there are no more operands than the command takes.
use Rattle.std.proofs.Common.{◌≡◌, ℕ, ◌+◌, ◌≤◌, ◌<◌, ◌==◌, Bool, List, [], ◌∷◌, ◌++◌, length, Option, Some, None, refl}
use Rattle.std.proofs.Common.{arith}
use Rattle.std.specs.List.{slice_get}
use Rattle.std.proofs.lemmas.List.{length-append}
use Rattle.std.proofs.lemmas.Option.{slice_get_within}
use Rattle.dt_words.specs.Rows.{operands_of}
use Rattle.dt_words.specs.Roles.{Role, Ends, Operand, Sets, Asks, Unknown}
use Rattle.dt_words.specs.Faults.{at_place, first_fault, operand_count, operand_fault, word_fault}
use Rattle.dt_words.specs.Operands.{operand_in, operands}
use Rattle.dt_words.specs.declared.rows.ValueKind.{ValueKind}
use Rattle.dt_words.specs.declared.rows.Verb.{Verb}
use Rattle.dt_words.specs.declared.usage.Usage.{Usage}

pub here_none : (place : ℕ) (fault : Option Usage) (later : Option (Usage × ℕ)) → at_place place fault later ≡ None
    → fault ≡ None
here_none place None later h = refl
here_none place (Some usage) later h = grind arith

pub later_none : (place : ℕ) (fault : Option Usage) (later : Option (Usage × ℕ)) → at_place place fault later ≡ None
    → later ≡ None
later_none place None later h = h
later_none place (Some usage) later h = grind arith

-- an operand that isn't faulty is one that may stand there
within : (kinds : List ValueKind) (n : ℕ) (text : List ℕ) (kind : Option ValueKind) → slice_get kinds n ≡ kind
    → operand_fault kind text ≡ None → n < length kinds
within kinds n text None is h = grind arith
within kinds n text (Some kind) is h = slice_get_within kinds n kind is

one_more : (verb : Verb) (n : ℕ) (last : Bool) (role : Role) → n ≤ length (operands_of verb)
    → word_fault verb n last role ≡ None → n + operand_count role ≤ length (operands_of verb)
one_more verb n last Ends fits h = omega arith
one_more verb n last (Operand text) fits h = let less : n < length (operands_of verb) =
    within (operands_of verb) n text (slice_get (operands_of verb) n) refl h in omega arith
one_more verb n last (Sets row text) fits h = omega arith
one_more verb n last (Asks row) fits h = omega arith
one_more verb n last Unknown fits h = omega arith

count_in : (role : Role) → length (operand_in role) ≡ operand_count role
count_in Ends = refl
count_in (Operand text) = refl
count_in (Sets row text) = refl
count_in (Asks row) = refl
count_in Unknown = refl

from_count : (verb : Verb) (place n : ℕ) (roles : List Role) → n ≤ length (operands_of verb)
    → first_fault verb place n roles ≡ None → n + length (operands roles) ≤ length (operands_of verb)
from_count verb place n [] fits h = omega arith
from_count verb place n (role ∷ roles) fits h =
    let here : word_fault verb n (length roles == 0) role ≡ None =
    here_none place (word_fault verb n (length roles == 0) role)
    (first_fault verb (place + 1) (n + operand_count role) roles) h in
    let more : n + operand_count role ≤ length (operands_of verb) =
    one_more verb n (length roles == 0) role fits here in
    let rest : n + operand_count role + length (operands roles) ≤ length (operands_of verb) =
    from_count verb (place + 1) (n + operand_count role) roles more
    (later_none place (word_fault verb n (length roles == 0) role)
    (first_fault verb (place + 1) (n + operand_count role) roles) h) in
    let count : length (operand_in role) ≡ operand_count role = count_in role in
    let parts : length (operand_in role ++ operands roles) ≡ length (operand_in role) + length (operands roles) =
    length-append (operand_in role) (operands roles) in
    omega arith

pub few_operands : (verb : Verb) (roles : List Role) → first_fault verb 1 0 roles ≡ None
    → length (operands roles) ≤ length (operands_of verb)
few_operands verb roles h =
    let all : 0 + length (operands roles) ≤ length (operands_of verb) = from_count verb 1 0 roles (omega arith) h in
    omega arith
