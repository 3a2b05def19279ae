-- The name behind a mark is a name.
use Rattle.std.proofs.Common.{ℕ, ◌==◌, List, [], ◌∷◌, drop}
use Rattle.std.specs.Prelude.{IsTrue}
use Rattle.std.proofs.lemmas.Bool.{and_parts}
use Rattle.dt_values.specs.Names.{IsName, is_name}
use Rattle.dt_fields.specs.Heads.{is_marked}

pub marked_is_name : (mark : ℕ) (token : List ℕ) → IsTrue (is_marked mark token) → IsName (drop 1 token)
marked_is_name mark [] h = absurd (cc)
marked_is_name mark (b ∷ bs) h = (and_parts (b == mark) (is_name bs) h).1
