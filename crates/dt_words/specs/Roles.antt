-- What each word behind the command is, from left to right.
use Rattle.std.specs.Prelude.{ℕ, ◌==◌, ◌&&◌, Bool, true, false, not, nat_lt, List, [], ◌∷◌, length, take, drop, Option}
use Rattle.std.specs.Prelude.{Some, None, codes, if◌then◌else◌}
use Rattle.std.specs.List.{before_first, after_first, position_or_len}
use Rattle.dt_values.specs.Types.{is_text}
use Rattle.dt_words.specs.Rows.{Row}
use Rattle.dt_words.specs.declared.rows.ValueKind.{ValueKind}
use Rattle.dt_words.specs.declared.rows.ValueKind.TheVariants as kind

-- what a word is
pub data Role : Type 0 where
  -- the `--` behind which all words are operands
  Ends : Role
  Operand : List ℕ → Role
  -- an option with its value, or that value; an option that takes none has an empty one
  Sets : Row → List ℕ → Role
  -- an option whose value is to be the next word
  Asks : Row → Role
  -- an option that isn't understood
  Unknown : Role

-- what the words so far say of the next one
pub data Next : Type 0 where
  Anything : Next
  -- an option's value, whatever it is
  ValueOf : Row → Next
  -- an operand, since `--` came
  Operands : Next

abbrev pub takes_value : ValueKind → Bool
takes_value kind.Flag = false
takes_value kind.Text = true
takes_value kind.Name = true
takes_value kind.Width = true
takes_value kind.Number = true
takes_value kind.Script = true

abbrev pub is_equals : ℕ → Bool
is_equals b = b == 61

-- what stands behind the first `=`, if there is one
abbrev pub behind_equals : List ℕ → Option (List ℕ)
behind_equals word =
    if nat_lt (position_or_len is_equals word) (length word) then Some (after_first is_equals word) else None

-- a long option's name: what stands before the first `=`
abbrev pub long_name : List ℕ → List ℕ
long_name word = before_first is_equals word

-- what stands behind a short option's letter, if there is something
abbrev pub behind_letter : List ℕ → Option (List ℕ)
behind_letter [] = None
behind_letter (b ∷ bs) = Some (b ∷ bs)

-- an option with this value in its own word, or without one
abbrev pub option_role : Row → Option (List ℕ) → Role
option_role row None = if takes_value row.kind then Asks row else Sets row []
option_role row (Some value) = if takes_value row.kind then Sets row value else Unknown

abbrev pub role_of_option : Option Row → Option (List ℕ) → Role
role_of_option None value = Unknown
role_of_option (Some row) value = option_role row value

-- the option of this long name
abbrev pub row_named : List Row → List ℕ → Option Row
row_named [] name = None
row_named (row ∷ rows) name = if is_text row.name name then Some row else row_named rows name

-- a word that begins with two dashes
abbrev pub long_role : List Row → List ℕ → Role
long_role rows word =
    if length word == 2 then Ends
    else role_of_option (row_named rows (long_name word)) (behind_equals word)

-- whether an option has a short name, and the word begins with it
abbrev pub is_short : List ℕ → List ℕ → Bool
is_short word short = (length short == 2) && is_text (take 2 word) short

-- the option whose short name the word begins with
abbrev pub row_short : List Row → List ℕ → Option Row
row_short [] word = None
row_short (row ∷ rows) word = if is_short word row.short then Some row else row_short rows word

-- a word that begins with one dash and goes on
abbrev pub short_role : List Row → List ℕ → Role
short_role rows word = role_of_option (row_short rows word) (behind_letter (drop 2 word))

-- a dash alone is an operand
abbrev pub is_option : List ℕ → Bool
is_option word = is_text (take 1 word) (codes "-") && nat_lt 1 (length word)

abbrev pub is_long : List ℕ → Bool
is_long word = is_text (take 2 word) (codes "--")

abbrev pub role_of : List Row → Next → List ℕ → Role
role_of rows Anything word =
    if not (is_option word) then Operand word
    else if is_long word then long_role rows word
    else short_role rows word
role_of rows (ValueOf row) word = Sets row word
role_of rows Operands word = Operand word

-- what a word says of the next one
abbrev pub next_after : Next → Role → Next
next_after next Ends = Operands
next_after next (Operand text) = next
next_after next (Sets row value) = Anything
next_after next (Asks row) = ValueOf row
next_after next Unknown = Anything

-- what each word is
abbrev pub roles_of : List Row → Next → List (List ℕ) → List Role
roles_of rows next [] = []
roles_of rows next (word ∷ words) =
    role_of rows next word
    ∷ roles_of rows (next_after next (role_of rows next word)) words
