-- The operands among the words.
use Rattle.std.specs.Prelude.{ℕ, ◌+◌, List, [], ◌∷◌, ◌++◌, get_or}
use Rattle.dt_words.specs.Roles.{Role, Ends, Operand, Sets, Asks, Unknown}

abbrev pub operand_in : Role → List (List ℕ)
operand_in Ends = []
operand_in (Operand text) = text ∷ []
operand_in (Sets row text) = []
operand_in (Asks row) = []
operand_in Unknown = []

-- the operands in order
abbrev pub operands : List Role → List (List ℕ)
operands [] = []
operands (role ∷ roles) = operand_in role ++ operands roles

-- operand n, from 0; an empty text stands for one that is missing
abbrev pub operand_at : ℕ → List Role → List ℕ
operand_at n roles = get_or (operands roles) n []

-- this place, if an operand stands there
abbrev pub place_of : ℕ → Role → List ℕ
place_of place Ends = []
place_of place (Operand text) = place ∷ []
place_of place (Sets row text) = []
place_of place (Asks row) = []
place_of place Unknown = []

-- the places of the operands in order, where the first word has this place
abbrev pub places_from : ℕ → List Role → List ℕ
places_from place [] = []
places_from place (role ∷ roles) = place_of place role ++ places_from (place + 1) roles

-- the places of the operands among all words: the command's name has the place 0
abbrev pub operand_places : List Role → List ℕ
operand_places roles = places_from 1 roles
