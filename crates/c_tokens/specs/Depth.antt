-- How deep the braces of a text nest. A closing brace stands inside its own pair, an opening one outside of it.
use Rattle.std.specs.Prelude.{◌≡◌, ℕ, ◌<◌, ◌+◌, ◌-◌, ◌==◌, if◌then◌else◌, nat_lt, List, [], ◌∷◌, ◌++◌, Option, Some}
use Rattle.std.specs.Prelude.{None}
use Rattle.c_tokens.specs.Tokens.{Token, word, mark, double_equals, arrow}

-- the most braces that may be open around a token
abbrev pub most_open : ℕ
most_open = 128

-- 123 is `{` and 125 is `}`; a closing brace with none open leaves none open
abbrev pub open_after : ℕ → Token → ℕ
open_after n (mark b) = if b == 123 then n + 1 else if b == 125 then n - 1 else n
open_after n (word w) = n
open_after n double_equals = n
open_after n arrow = n

-- how many are open behind the tokens, with n open in front of them
abbrev pub open_behind : ℕ → List Token → ℕ
open_behind n [] = n
open_behind n (t ∷ ts) = open_behind (open_after n t) ts

-- with n braces open in front of the tokens, one of them stands inside more than `most_open`
pub record IsDeep (n : ℕ) (tokens : List Token) : Type 0 where
  pub front : List Token
  pub token : Token
  pub rest : List Token
  pub splits : tokens ≡ front ++ (token ∷ rest)
  pub inside : most_open < open_behind n front

abbrev pub IsTooDeep : List Token → Type 0
IsTooDeep tokens = IsDeep 0 tokens

-- how many are open behind one token, unless it stands inside too many, or behind none
abbrev pub open_unless_deep : ℕ → Option Token → Option ℕ
open_unless_deep n None = Some n
open_unless_deep n (Some t) = if nat_lt most_open n then None else Some (open_after n t)
