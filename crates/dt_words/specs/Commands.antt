-- What the command words say: a command, or what is wrong with which word.
use Rattle.std.specs.Prelude.{ℕ, ◌≤◌, Bool, true, false, nat_lt, List, [], ◌∷◌, length, Option, Some, None, is_none, get_or}
use Rattle.std.specs.Prelude.{◌≡◌, ◌<◌, slice_index, Result, Ok, Err, codes, if◌then◌else◌}
use Rattle.dt_model.specs.Options.{IsOptions, default_options}
use Rattle.dt_model.specs.declared.options.Options.{Options}
use Rattle.dt_words.specs.Rows.{verb_of, options_of, least_operands}
use Rattle.dt_words.specs.Roles.{Role, Anything, roles_of}
use Rattle.dt_words.specs.Values.{option_name, width_of}
use Rattle.dt_words.specs.Faults.{first_fault}
use Rattle.dt_words.specs.Settings.{last_setting, last_value, is_set, text_of}
use Rattle.dt_words.specs.Numbers.{number_of}
use Rattle.dt_words.specs.Operands.{operands, operand_at, operand_places}
use Rattle.dt_words.specs.Scripts.{answers_in, outcomes_in, script_of}
use Rattle.dt_words.specs.declared.command.Command.{Command}
use Rattle.dt_words.specs.declared.command.Command.TheVariants as command
use Rattle.dt_model.specs.declared.limits.TheConstants.{MOST_FILES}
use Rattle.dt_words.specs.declared.script.Item.{Item}
use Rattle.dt_words.specs.declared.rows.Verb.{Verb}
use Rattle.dt_words.specs.declared.rows.Verb.TheVariants as verb
use Rattle.dt_words.specs.declared.usage.Usage.{Usage}
use Rattle.dt_words.specs.declared.usage.Usage.TheVariants as usage

-- what a value is read as, or what holds without it
abbrev pub or_default : {A B : Type 0} → (A → Option B) → B → Option A → B
or_default read default None = default
or_default {A} {B} read default (Some a) = or_read (read a)
  where
    or_read : Option B → B
    or_read None = default
    or_read (Some b) = b

-- whether the last of two options is the first of them; so where there is none
abbrev pub is_first : Option (Bool × List ℕ) → Bool
is_first None = true
is_first (Some setting) = setting.0

-- of `--decode` and `--static-decode` the last holds
abbrev pub decoder_setting : List Role → Option (Bool × List ℕ)
decoder_setting roles = last_setting (codes "--static-decode") (codes "--decode") roles

-- what the words say of the decoder, and what holds where they say nothing
abbrev pub options_from : List Role → Options
options_from roles = record {
  width = or_default width_of default_options.width (last_value (codes "--insnwidth") roles);
  variable = false;
  decode = or_default option_name default_options.decode (text_of (decoder_setting roles));
  decode_static = is_first (decoder_setting roles);
  translate = or_default option_name default_options.translate (last_value (codes "--translate") roles);
  translate_static = is_none (last_value (codes "--translate") roles);
}

-- the number of the operand WORD
abbrev pub word_from : List Role → ℕ
word_from roles = or_default number_of 0 (Some (operand_at 1 roles))

-- the items of the operand SCRIPT
abbrev pub script_from : List Role → List Item
script_from roles = or_default script_of [] (Some (operand_at 2 roles))

abbrev pub command_from : Verb → List Role → Command
command_from verb.Gen roles =
    command.Gen
    (options_from roles)
    (last_value (codes "--output") roles)
    (operands roles)
    (is_set (codes "--test-for-error") roles)
command_from verb.Eval roles =
    command.Eval
    (operand_at 0 roles)
    (word_from roles)
    (slice_index (operand_places roles) 1)
    (outcomes_in (script_from roles))
    (answers_in (script_from roles))

-- the command, where no word is faulty
abbrev pub unless_missing : Verb → List Role → Result Command (Usage × Option ℕ)
unless_missing verb roles =
    if nat_lt (length (operands roles)) (least_operands verb) then Err (usage.U6, None)
    else Ok (command_from verb roles)

abbrev pub unless_faulty : Option (Usage × ℕ) → Verb → List Role → Result Command (Usage × Option ℕ)
unless_faulty None verb roles = unless_missing verb roles
unless_faulty (Some fault) verb roles = Err (fault.0, Some fault.1)

-- the command of this name, with these words behind it
abbrev pub command_with : Option Verb → List (List ℕ) → Result Command (Usage × Option ℕ)
command_with None words = Err (usage.U1, Some 0)
command_with (Some verb) words =
    let roles = roles_of (options_of verb) Anything words in
    unless_faulty (first_fault verb 1 0 roles) verb roles

-- the command that the words are, or what is wrong, with the place of the faulty word, from 0
abbrev pub command_of : List (List ℕ) → Result Command (Usage × Option ℕ)
command_of [] = Err (usage.U1, None)
command_of (name ∷ words) = command_with (verb_of name) words

-- what each command keeps, so that a reader of its files takes it
pub record IsGen (options : Options) (files : List (List ℕ)) : Type 0 where
  pub fit : IsOptions options
  pub some : 1 ≤ length files
  pub few : length files ≤ MOST_FILES

abbrev pub IsCommand : Command → Type 0
IsCommand (command.Gen options output files test) = IsGen options files
IsCommand (command.Eval text word place outcomes answers) = Unit {0}

-- the word at this place is there, and is this number
pub record IsNumberAt (words : List (List ℕ)) (place word : ℕ) : Type 0 where
  pub within : place < length words
  pub number : number_of (get_or words place []) ≡ Some word

-- where a command says that its number stands, there it stands
abbrev pub IsPlaced : List (List ℕ) → Command → Type 0
IsPlaced words (command.Gen options output files test) = Unit {0}
IsPlaced words (command.Eval text word place outcomes answers) = IsNumberAt words place word
