-- Where operands stand: a word that is an operand is its text.
use Rattle.std.proofs.Common.{◌≡◌, ◌≢◌, ℕ, zero, suc, ◌==◌, Bool, true, false, not, List, [], ◌∷◌, length, drop, Option, Some, None}
use Rattle.std.proofs.Common.{ap, if◌then◌else◌}
use Rattle.std.specs.List.{slice_get}
use Rattle.std.proofs.lemmas.Option.{none-some, same_Some}
use Rattle.dt_words.specs.Rows.{Row}
use Rattle.dt_words.specs.Roles.{Role, Ends, Operand, Sets, Asks, Unknown, Next, Anything, ValueOf, Operands}
use Rattle.dt_words.specs.Roles.{behind_equals, behind_letter, is_long, is_option, long_name, long_role, next_after}
use Rattle.dt_words.specs.Roles.{role_of, role_of_option, roles_of, row_named, row_short, short_role, takes_value}

-- an option is no operand, whether it takes a value or not
no_operand : (takes : Bool) (row : Row) (text : List ℕ) → (if takes then Asks row else Sets row []) ≢ Operand text
no_operand true row text = λ h. cc
no_operand false row text = λ h. cc

no_operand_with : (takes : Bool) (row : Row) (value text : List ℕ)
    → (if takes then Sets row value else Unknown) ≢ Operand text
no_operand_with true row value text = λ h. cc
no_operand_with false row value text = λ h. cc

option_no_operand : (row : Option Row) (value : Option (List ℕ)) (text : List ℕ)
    → role_of_option row value ≢ Operand text
option_no_operand None value text = λ h. cc
option_no_operand (Some row) None text = no_operand (takes_value row.kind) row text
option_no_operand (Some row) (Some value) text = no_operand_with (takes_value row.kind) row value text

ends_or : (two : Bool) (role : Role) (text : List ℕ) → role ≢ Operand text → (if two then Ends else role) ≢ Operand text
ends_or true role text lacks = λ h. cc
ends_or false role text lacks = lacks

own_text : (option long : Bool) (first second : Role) (word text : List ℕ) → first ≢ Operand text
    → second ≢ Operand text
    → (if not option then Operand word else if long then first else second) ≡ Operand text → word ≡ text
own_text false long first second word text lacks both h = cc
own_text true true first second word text lacks both h = absurd (lacks h)
own_text true false first second word text lacks both h = absurd (both h)

-- an operand is its word
operand_word : (rows : List Row) (next : Next) (word text : List ℕ) → role_of rows next word ≡ Operand text → word ≡ text
operand_word rows Anything word text h =
    own_text (is_option word) (is_long word) (long_role rows word) (short_role rows word) word text
    (ends_or (length word == 2) (role_of_option (row_named rows (long_name word)) (behind_equals word)) text
    (option_no_operand (row_named rows (long_name word)) (behind_equals word) text))
    (option_no_operand (row_short rows word) (behind_letter (drop 2 word)) text)
    h
operand_word rows (ValueOf row) word text h = absurd cc
operand_word rows Operands word text h = cc

pub word_there : (rows : List Row) (next : Next) (words : List (List ℕ)) (k : ℕ) (text : List ℕ)
    → slice_get (roles_of rows next words) k ≡ Some (Operand text) → slice_get words k ≡ Some text
word_there rows next [] k text h = absurd (none-some (Operand text) h)
word_there rows next (word ∷ words) zero text h =
    ap Some (operand_word rows next word text (same_Some (role_of rows next word) (Operand text) h))
word_there rows next (word ∷ words) (suc k) text h =
    word_there rows (next_after next (role_of rows next word)) words k text h
