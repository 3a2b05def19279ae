-- Words behind `--`: they are operands, none of up to `MOST_FILES` is faulty, and they set nothing.
use Rattle.std.proofs.Common.{◌≡◌, ℕ, ◌+◌, ◌≤◌, ◌<◌, Bool, false, nat_lt, List, [], ◌∷◌, length, map, replicate, Option}
use Rattle.std.proofs.Common.{Some, None, is_none, is_some, refl, ap, ◌∙◌, arith, if◌then◌else◌}
use Rattle.std.specs.Prelude.{Ok, Err, codes}
use Rattle.std.specs.List.{slice_get}
use Rattle.std.specs.Option.{option_or}
use Rattle.std.proofs.lemmas.Bool.Decides.{nat_tests}
use Rattle.std.proofs.lemmas.List.{get_or-replicate, length-replicate}
use Rattle.std.proofs.lemmas.Option.{slice_get-get_or}
use Rattle.dt_model.specs.Options.{default_options}
use Rattle.dt_words.specs.Rows.{Row, options_of, operands_of}
use Rattle.dt_words.specs.Roles.{Role, Ends, Operand, Operands, roles_of}
use Rattle.dt_words.specs.Values.{option_name, width_of}
use Rattle.dt_words.specs.Faults.{at_place, first_fault, operand_fault}
use Rattle.dt_words.specs.Settings.{last_setting, text_of}
use Rattle.dt_words.specs.Operands.{operands}
use Rattle.dt_words.specs.Commands.{command_from, command_of, is_first, or_default, unless_faulty, unless_missing}
use Rattle.dt_words.specs.declared.command.Command.{Command}
use Rattle.dt_words.specs.declared.command.Command.TheVariants as command
use Rattle.dt_model.specs.declared.limits.TheConstants.{MOST_FILES}
use Rattle.dt_words.specs.declared.rows.ValueKind.TheVariants as kind
use Rattle.dt_words.specs.declared.rows.Verb.TheVariants as verb
use Rattle.dt_words.specs.declared.usage.Usage.TheVariants as usage

only_operands : (rows : List Row) (words : List (List ℕ)) → roles_of rows Operands words ≡ map Operand words
only_operands rows [] = refl
only_operands rows (word ∷ words) = ap (λ roles. Operand word ∷ roles) (only_operands rows words)

same_operands : (words : List (List ℕ)) → operands (map Operand words) ≡ words
same_operands [] = refl
same_operands (word ∷ words) = ap (λ texts. word ∷ texts) (same_operands words)

no_setting : (name other : List ℕ) (words : List (List ℕ)) → last_setting name other (map Operand words) ≡ None
no_setting name other [] = refl
no_setting name other (word ∷ words) = ap (λ setting. option_or setting None) (no_setting name other words)

file_at : (n : ℕ) → n < MOST_FILES → slice_get (operands_of verb.Gen) n ≡ Some kind.Text
file_at n h =
    let long : length (replicate MOST_FILES kind.Text) ≡ MOST_FILES = length-replicate MOST_FILES kind.Text in
    slice_get-get_or (replicate MOST_FILES kind.Text) n kind.Text (omega arith)
    ∙ ap Some (get_or-replicate MOST_FILES n kind.Text kind.Text h)

no_fault : (place n : ℕ) (words : List (List ℕ)) → n + length words ≤ MOST_FILES
    → first_fault verb.Gen place n (map Operand words) ≡ None
no_fault place n [] h = refl
no_fault place n (word ∷ words) h =
    ap (λ kind. at_place place (operand_fault kind word)
    (first_fault verb.Gen (place + 1) (n + 1) (map Operand words))) (file_at n (omega arith))
    ∙ no_fault (place + 1) (n + 1) words (omega arith)

-- the value of an option, and whether it is the first of two names
abbrev Setting : Type 0
Setting = Option (Bool × List ℕ)

-- a command by the settings of its options
abbrev command_by : Setting → Setting → Setting → Setting → Setting → List (List ℕ) → Command
command_by insnwidth decode translate output test files =
    command.Gen
    (record {
      width = or_default width_of default_options.width (text_of insnwidth);
      variable = false;
      decode = or_default option_name default_options.decode (text_of decode);
      decode_static = is_first decode;
      translate = or_default option_name default_options.translate (text_of translate);
      translate_static = is_none (text_of translate);
    })
    (text_of output)
    files
    (is_some (text_of test))

by_none : (a b c d e : Setting) (files : List (List ℕ)) → a ≡ None → b ≡ None → c ≡ None → d ≡ None → e ≡ None
    → command_by a b c d e files ≡ command.Gen default_options None files false
by_none a b c d e files is_a is_b is_c is_d is_e =
    ap (λ s. command_by s b c d e files) is_a
    ∙ ap (λ s. command_by None s c d e files) is_b
    ∙ ap (λ s. command_by None None s d e files) is_c
    ∙ ap (λ s. command_by None None None s e files) is_d
    ∙ ap (λ s. command_by None None None None s files) is_e

-- behind `--` alone
abbrev behind : List (List ℕ) → List Role
behind files = Ends ∷ map Operand files

no_setting_behind : (name other : List ℕ) (files : List (List ℕ)) → last_setting name other (behind files) ≡ None
no_setting_behind name other files = ap (λ setting. option_or setting None) (no_setting name other files)

command_behind : (files : List (List ℕ))
    → command_from verb.Gen (behind files) ≡ command.Gen default_options None files false
command_behind files =
    let none : (name other : List ℕ)
    → last_setting name other (behind files) ≡ None = λ name other. no_setting_behind name other files in
    by_none
    (last_setting (codes "--insnwidth") (codes "--insnwidth") (behind files))
    (last_setting (codes "--static-decode") (codes "--decode") (behind files))
    (last_setting (codes "--translate") (codes "--translate") (behind files))
    (last_setting (codes "--output") (codes "--output") (behind files))
    (last_setting (codes "--test-for-error") (codes "--test-for-error") (behind files))
    (operands (behind files))
    (none (codes "--insnwidth") (codes "--insnwidth"))
    (none (codes "--static-decode") (codes "--decode"))
    (none (codes "--translate") (codes "--translate"))
    (none (codes "--output") (codes "--output"))
    (none (codes "--test-for-error") (codes "--test-for-error"))
    ∙ ap (λ texts. command.Gen default_options None texts false) (same_operands files)

-- a file isn't missing
no_missing : (files : List (List ℕ)) → 1 ≤ length files
    → unless_missing verb.Gen (behind files) ≡ Ok (command.Gen default_options None files false)
no_missing files h =
    let long : nat_lt (length (operands (behind files))) 1 ≡ false =
    ap (λ texts. nat_lt (length texts) 1) (same_operands files) ∙ grind (arith, nat_tests) in
    ap (λ b. if b then Err (usage.U6, None) else Ok (command_from verb.Gen (behind files))) long
    ∙ ap Ok (command_behind files)

pub files_behind_dashes : (files : List (List ℕ)) → 1 ≤ length files → length files ≤ MOST_FILES
    → command_of (codes "gen" ∷ codes "--" ∷ files) ≡ Ok (command.Gen default_options None files false)
files_behind_dashes files some few =
    ap (λ roles. unless_faulty (first_fault verb.Gen 1 0 (Ends ∷ roles)) verb.Gen (Ends ∷ roles))
    (only_operands (options_of verb.Gen) files)
    ∙ ap (λ fault. unless_faulty fault verb.Gen (behind files)) (no_fault 2 0 files (omega arith))
    ∙ no_missing files some
