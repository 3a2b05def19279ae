-- The tokens that the code's tokens stand for.
use Rattle.std.specs.Prelude.{ℕ, List, map, Option, None, option_map, MatchOption}
use Rattle.std.specs.Borrow.{Bor}
use Rattle.c_tokens.specs.Tokens.{Mode, Token, word, mark, double_equals, arrow}
use Rattle.c_tokens.specs.Reading.{ReadsAs, ReadsNothing}
use Rattle.c_tokens.specs.declared.token.Token.{Token as Made}
use Rattle.c_tokens.specs.declared.token.Token.TheVariants.{Word, Mark, DoubleEquals, Arrow}

abbrev pub token_seen : Made → Token
token_seen (Word bytes) = word bytes.now
token_seen (Mark byte) = mark byte
token_seen DoubleEquals = double_equals
token_seen Arrow = arrow

abbrev pub tokens_seen : List Made → List Token
tokens_seen = map token_seen

-- white space and comments are no token
abbrev pub lexeme_seen : Option Made → Option Token
lexeme_seen = option_map token_seen

-- a token, or none, with the text behind it, is what the text is read as from its start
abbrev pub IsFirst : List ℕ → Mode → Option (Option Made × Bor (List ℕ)) → Type 0
IsFirst text m first = MatchOption first (ReadsNothing text m) (λ x. ReadsAs text m (lexeme_seen x.0) x.1.now)

-- no token is in front of the rest
abbrev pub IsRest : List ℕ → Mode → Option (Bor (List ℕ)) → Type 0
IsRest text m rest = MatchOption rest (ReadsNothing text m) (λ x. ReadsAs text m None x.now)
