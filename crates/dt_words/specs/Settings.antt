-- What the options are set to: of one that is repeated the last value.
use Rattle.std.specs.Prelude.{ℕ, Bool, true, false, List, [], ◌∷◌, Option, Some, None, is_some, if◌then◌else◌}
use Rattle.std.specs.Option.{option_or}
use Rattle.dt_values.specs.Types.{is_text}
use Rattle.dt_words.specs.Roles.{Role, Ends, Operand, Sets, Asks, Unknown}

-- where a word sets the option of one name or the other: its value, and whether it is the one of the first name
abbrev pub setting_in : List ℕ → List ℕ → Role → Option (Bool × List ℕ)
setting_in name other Ends = None
setting_in name other (Operand text) = None
setting_in name other (Sets row text) =
    if is_text row.name name then Some (true, text)
    else if is_text row.name other then Some (false, text)
    else None
setting_in name other (Asks row) = None
setting_in name other Unknown = None

-- the last of these
abbrev pub last_setting : List ℕ → List ℕ → List Role → Option (Bool × List ℕ)
last_setting name other [] = None
last_setting name other (role ∷ roles) = option_or (last_setting name other roles) (setting_in name other role)

abbrev pub text_of : Option (Bool × List ℕ) → Option (List ℕ)
text_of None = None
text_of (Some setting) = Some setting.1

-- the last value of an option
abbrev pub last_value : List ℕ → List Role → Option (List ℕ)
last_value name roles = text_of (last_setting name name roles)

abbrev pub is_set : List ℕ → List Role → Bool
is_set name roles = is_some (last_value name roles)
