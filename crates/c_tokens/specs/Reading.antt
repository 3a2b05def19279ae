-- What is read of a text from a mode on, and what stands first in it.
use Rattle.std.specs.Prelude.{◌≡◌, ℕ, List, [], ◌∷◌, Option, Some, None, option_map}
use Rattle.c_tokens.specs.Tokens.{Token, Mode, between, read, whole}
use Rattle.c_tokens.specs.Before.{before}

-- the tokens before the first place that is none, and all tokens where there is no such place
abbrev pub Reading : Type 0
Reading = List Token × Option (List Token)

unfoldable pub reading : List ℕ → Mode → Reading
reading text m = (before text m, whole (read text m))

-- no token can be at the start
abbrev pub no_token : Reading
no_token = ([], None)

-- a first token, or none, and then what else is read
abbrev pub with_first : Option Token → Reading → Reading
with_first None r = r
with_first (Some t) r = (t ∷ r.0, option_map (λ ts. t ∷ ts) r.1)

-- the token as a list of one, or of none
abbrev pub as_list : Option Token → List Token
as_list None = []
as_list (Some t) = t ∷ []

-- this token, or none, is first in the text, and the rest of the text is behind it
abbrev pub ReadsAs : List ℕ → Mode → Option Token → List ℕ → Type 0
ReadsAs text m first rest = reading text m ≡ with_first first (reading rest between)

-- no token can be first in the text
abbrev pub ReadsNothing : List ℕ → Mode → Type 0
ReadsNothing text m = reading text m ≡ no_token
