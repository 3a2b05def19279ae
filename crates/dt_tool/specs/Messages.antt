-- The texts for standard error (docs/COMMANDS.md, "Rules").
use Rattle.std.specs.Prelude.{ℕ, ◌/◌, List, [], ◌∷◌, ◌++◌, Option, Some, None, codes, decimal, flat_map, get_or}
use Rattle.std.specs.Option.{option_map}
use Rattle.dt_text.specs.Hexadecimal.{hex}
use Rattle.dt_text.specs.Pieces.{text, name, pieces_text}
use Rattle.dt_values.specs.Widths.{width_bits}
use Rattle.dt_values.specs.declared.width.Width.{Width}
use Rattle.dt_lines.specs.declared.line.Position.{Position}
use Rattle.dt_fields.specs.RuleTexts.{rule_text}
use Rattle.dt_fields.specs.declared.rule.Rule.{Rule}
use Rattle.dt_fields.specs.declared.rule.Rule.TheVariants as rule
use Rattle.dt_forms.specs.Positions.{first_token_at}
use Rattle.dt_fields.specs.Faults.{Detail, nothing, token, named, number, mask}
use Rattle.dt_forms.specs.Rules.{Fault}
use Rattle.dt_tool.specs.RefusalTexts.{refusal_text}
use Rattle.dt_tool.specs.declared.refusal.Refusal.{Refusal}
use Rattle.dt_words.specs.PrintedWords.{usage_code, printed_word}
use Rattle.dt_words.specs.declared.usage.Usage.{Usage}

abbrev pub line_end : List ℕ
line_end = pieces_text (text (codes "\n") ∷ [])

-- the faulty word, if there is one
abbrev pub word_text : Usage → Option (List ℕ) → List ℕ
word_text usage None = []
word_text usage (Some word) = pieces_text (text (codes " ") ∷ text (printed_word usage word) ∷ [])

-- what is said of words that aren't understood
abbrev pub usage_text : Usage → Option (List ℕ) → List ℕ
usage_text usage word =
    pieces_text (text (codes "usage: ") ∷ text (usage_code usage) ∷ []) ++ (word_text usage word ++ line_end)

abbrev pub usage_message : List (List ℕ) → Usage × Option ℕ → List ℕ
usage_message words fault = usage_text fault.0 (option_map (λ place. get_or words place []) fault.1)

abbrev pub cannot_write : List ℕ
cannot_write = codes "error: cannot write\n"

abbrev pub no_memory : List ℕ
no_memory = codes "error: no memory\n"

-- a line about a file
abbrev pub line_about : List ℕ → List ℕ → List ℕ
line_about prefix file = pieces_text (text prefix ∷ text file ∷ text (codes "\n") ∷ [])

abbrev pub cannot_read : List ℕ → List ℕ
cannot_read file = line_about (codes "error: cannot read ") file

-- the bytes of a token or a name, a number in decimal, the bits of a mask in a hexadecimal digit for each four
abbrev pub bytes_text : List ℕ → List ℕ
bytes_text bytes = pieces_text (text (codes ": ") ∷ text bytes ∷ [])

-- the detail of a refusal, if it has one
abbrev pub about : Option (List ℕ) → List ℕ
about None = []
about (Some detail) = bytes_text detail

-- what is said of a refusal
abbrev pub refusal_message : Refusal → Option (List ℕ) → List ℕ
refusal_message refusal detail =
    pieces_text (text (codes "error: ") ∷ text (refusal_text refusal) ∷ []) ++ (about detail ++ line_end)

abbrev pub number_text : ℕ → List ℕ
number_text n = pieces_text (text (codes ": ") ∷ name (decimal n) ∷ [])

abbrev pub mask_text : Width → ℕ → List ℕ
mask_text width m = pieces_text (text (codes ": 0x") ∷ name (hex (width_bits width / 4) m) ∷ [])

-- what stands behind a rule, over words of this width
abbrev pub detail_text : Width → Detail → List ℕ
detail_text width nothing = []
detail_text width (token bytes) = bytes_text bytes
detail_text width (named bytes) = bytes_text bytes
detail_text width (number n) = number_text n
detail_text width (mask m) = mask_text width m

-- the name of a file by its place among these
abbrev pub name_at : List (List ℕ) → ℕ → List ℕ
name_at names file = get_or names file []

-- where a rule is broken, and which, with its text
abbrev pub place_text : List ℕ → List (List ℕ) → Position → Rule → List ℕ
place_text kind names position broken =
    pieces_text (text (name_at names position.file) ∷ text (codes ":") ∷ name (decimal position.line)
    ∷ text (codes ": ") ∷ text kind ∷ text (codes ": ") ∷ text (rule_text broken) ∷ [])

-- a line about a broken rule of files with these names
abbrev pub fault_message : Width → List (List ℕ) → Fault → List ℕ
fault_message width names fault =
    place_text (codes "error") names (record { file = fault.file; line = fault.line }) fault.broken.0
    ++ (detail_text width fault.broken.1 ++ line_end)

-- a line about an entry at a position, by a rule of groups: it names the first token of the line there, which is the
-- pattern's name, or opens the group
abbrev pub entry_text : List ℕ → Rule → List (List ℕ) → List (List ℕ) → Position → List ℕ
entry_text kind broken names texts position =
    place_text kind names position broken ++ (bytes_text (first_token_at texts position) ++ line_end)

abbrev pub entry_message : Rule → List (List ℕ) → List (List ℕ) → Position → List ℕ
entry_message broken names texts position = entry_text (codes "error") broken names texts position

-- the first of them, and a note for each other
abbrev pub overlap_message : List (List ℕ) → List (List ℕ) → List Position → List ℕ
overlap_message names texts [] = []
overlap_message names texts (p ∷ ps) =
    entry_text (codes "error") rule.H2 names texts p
    ++ flat_map (entry_text (codes "note") rule.H2 names texts) ps
