-- The tokens of a text before the first place where none can be (C17, 6.4; the C subset, docs/C_SUBSET.md). A byte
-- outside the subset is such a place, and so is a comment that isn't closed.
use Rattle.std.specs.Prelude.{◌≡◌, ℕ, List, [], ◌∷◌, ◌++◌, Option, Some, None, IsSome}
use Rattle.c_tokens.specs.Tokens.{Token, word, mark, kind, Mode, between, in_word, after_equals, after_dash}
use Rattle.c_tokens.specs.Tokens.{after_slash, in_comment, after_star, Read, step, tokens_of}

-- the token that ends where the next byte doesn't belong to it; a comment that was begun is none
abbrev pub last_token : Mode → List Token
last_token between = []
last_token (in_word w) = word w ∷ []
last_token after_equals = mark 61 ∷ []
last_token after_dash = mark 45 ∷ []
last_token after_slash = []
last_token in_comment = []
last_token after_star = []

-- what a byte's reading gives: more tokens, or the end of all where it has none
abbrev pub go_on : (Mode → List Token) → Mode → Option Read → List Token
go_on more m None = last_token m
go_on more m (Some r) = r.0 ++ more r.1

-- the tokens from a mode on
unfoldable pub before : List ℕ → Mode → List Token
before [] m = last_token m
before (b ∷ bs) m = go_on (before bs) m (step m (kind b) b)

abbrev pub tokens_before : List ℕ → List Token
tokens_before text = before text between

-- The longest front of the text that has tokens has these.
pub record IsLongestFront (text : List ℕ) (tokens : List Token) : Type 0 where
  pub front : List ℕ
  pub rest : List ℕ
  pub splits : text ≡ front ++ rest
  pub has : tokens_of front ≡ Some tokens
  pub longest : (more behind : List ℕ) → rest ≡ more ++ behind → IsSome (tokens_of (front ++ more)) → more ≡ []
