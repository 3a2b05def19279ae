-- The number of an `eval` stands where its place says.
use Rattle.std.proofs.Common.{◌≡◌, ℕ, suc, ◌+◌, ◌<◌, ◌≤◌, Bool, true, false, nat_lt, List, [], ◌∷◌, length, get_or, Option, Some}
use Rattle.std.proofs.Common.{None, refl, ap, subst, ◌∙◌, arith, if◌then◌else◌}
use Rattle.std.specs.Prelude.{Result, Ok, Err, IfOk, slice_index}
use Rattle.std.specs.List.{slice_get}
use Rattle.std.proofs.lemmas.Bool.Decides.{nat_tests}
use Rattle.std.proofs.lemmas.Option.{get_or_from_slice_get, slice_get-get_or, slice_get_within}
use Rattle.dt_words.specs.Numbers.{number_of}
use Rattle.dt_words.specs.Roles.{Role, Anything, Operand, roles_of}
use Rattle.dt_words.specs.Rows.{least_operands, options_of, verb_of}
use Rattle.dt_words.specs.Faults.{first_fault}
use Rattle.dt_words.specs.Operands.{operand_at, operand_places, operands, places_from}
use Rattle.dt_words.specs.Values.{wrong_unless}
use Rattle.dt_words.specs.Commands.{IsNumberAt, IsPlaced, command_from, command_of, command_with, or_default, unless_faulty}
use Rattle.dt_words.specs.Commands.{word_from}
use Rattle.dt_words.specs.View.{Answers}
use Rattle.dt_words.specs.declared.command.Command.{Command}
use Rattle.dt_words.specs.declared.read.WordFault.{WordFault}
use Rattle.dt_words.specs.declared.rows.Verb.{Verb}
use Rattle.dt_words.specs.declared.rows.Verb.TheVariants as verb
use Rattle.dt_words.specs.declared.usage.Usage.{Usage}
use Rattle.dt_words.specs.declared.usage.Usage.TheVariants as usage
use Rattle.dt_words.proofs.OperandPlaces.{IsAt, operand_right, placed_at}
use Rattle.dt_words.proofs.OperandWords.{word_there}

-- a number that isn't faulty is the one that is read
read_by : (read : List ℕ → Option ℕ) (text : List ℕ) (number : Option ℕ) → read text ≡ number
    → wrong_unless number usage.U4 ≡ None → read text ≡ Some (or_default read 0 (Some text))
read_by read text None is h = absurd cc
read_by read text (Some n) is h = rw is refl

-- the second operand is the number
number_at : (name : List ℕ) (words : List (List ℕ)) (roles : List Role) → roles ≡ roles_of [] Anything words
    → first_fault verb.Eval 1 0 roles ≡ None → 3 ≤ length (operands roles)
    → IsNumberAt (name ∷ words) (slice_index (operand_places roles) 1) (word_from roles)
number_at name words roles made right three =
    let text = operand_at 1 roles in
    let few : 1 < length (operands roles) = omega arith in
    let is : slice_get (operands roles) 1 ≡ Some text =
    slice_get-get_or (operands roles) 1 [] few in
    let at : IsAt roles 1 1 text = placed_at 1 1 roles text is in
    let there : slice_get words at.index ≡ Some text = word_there [] Anything words at.index text
    (subst (λ (rs : List Role). slice_get rs at.index ≡ Some (Operand text)) made at.role_is) in
    let less : at.index < length words = slice_get_within words at.index text there in
    let place_is : get_or (places_from 1 roles) 1 0 ≡ 1 + at.index = at.place_is in
    let place : slice_index (operand_places roles) 1 ≡ suc at.index = omega arith in
    let number : number_of text ≡ Some (word_from roles) =
    read_by number_of text (number_of text) refl (operand_right verb.Eval 1 0 1 roles text right is) in
    record {
      within = omega arith;
      number = ap (λ p. number_of (get_or (name ∷ words) p [])) place
          ∙ ap number_of (get_or_from_slice_get words at.index text [] there)
          ∙ number;
    }

abbrev missing : Result Command (Usage × Option ℕ)
missing = Err (usage.U6, None)

-- a command with enough operands, in which no word is faulty
by_count : (verb : Verb) (words : List (List ℕ)) (roles : List Role) (command : Command)
    → (least_operands verb ≤ length (operands roles) → IsPlaced words (command_from verb roles))
    → (few : Bool) → nat_lt (length (operands roles)) (least_operands verb) ≡ few
    → (if few then missing else Ok (command_from verb roles)) ≡ Ok command → IsPlaced words command
by_count verb words roles command right true is h = absurd cc
by_count verb words roles command right false is h =
    let enough : least_operands verb ≤ length (operands roles) = grind (arith, nat_tests) in
    let same : command_from verb roles ≡ command = cc in
    subst (λ (c : Command). IsPlaced words c) same (right enough)

by_fault : (verb : Verb) (words : List (List ℕ)) (roles : List Role) (command : Command)
    → (first_fault verb 1 0 roles ≡ None → least_operands verb ≤ length (operands roles)
    → IsPlaced words (command_from verb roles))
    → (fault : Option (Usage × ℕ)) → first_fault verb 1 0 roles ≡ fault
    → unless_faulty fault verb roles ≡ Ok command → IsPlaced words command
by_fault verb words roles command right (Some fault) is h = absurd cc
by_fault verb words roles command right None is h =
    by_count verb words roles command (right is) (nat_lt (length (operands roles)) (least_operands verb)) refl h

by_verb : (name : List ℕ) (words : List (List ℕ)) (command : Command) (verb : Option Verb)
    → command_with verb words ≡ Ok command → IsPlaced (name ∷ words) command
by_verb name words command None h = absurd cc
by_verb name words command (Some verb.Gen) h =
    let roles = roles_of (options_of verb.Gen) Anything words in
    by_fault verb.Gen (name ∷ words) roles command (λ right enough. tt) (first_fault verb.Gen 1 0 roles) refl h
by_verb name words command (Some verb.Eval) h =
    let roles = roles_of [] Anything words in
    by_fault verb.Eval (name ∷ words) roles command (λ right enough. number_at name words roles refl right enough)
    (first_fault verb.Eval 1 0 roles) refl h

placed : (words : List (List ℕ)) (command : Command) → command_of words ≡ Ok command → IsPlaced words command
placed [] command h = absurd cc
placed (name ∷ words) command h = by_verb name words command (verb_of name) h

pub placed_answer : (words : List (List ℕ)) (result : Result Command WordFault) → Answers result (command_of words)
    → IfOk result (λ command. IsPlaced words command)
placed_answer words (Ok command) h = placed words command h
placed_answer words (Err fault) h = tt
