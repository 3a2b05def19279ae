-- The readers of one word.
use Rattle.std.specs.Prelude.{ℕ, ◌^◌, List}
use Rattle.dt_values.specs.declared.width.Width.{Width}
use Rattle.c_tokens.specs.Parsing.{Parse, word_as}
use Rattle.c_tokens.specs.Words.{hex_length}
use Rattle.c_tokens.specs.WordParsing.{name_of, name_behind, number_of, hex_of}

unfoldable pub name_at : Parse (List ℕ)
name_at = word_as name_of

-- the name behind fixed bytes
unfoldable pub name_behind_at : List ℕ → Parse (List ℕ)
name_behind_at fixed = word_as (name_behind fixed)

-- a number below 2^32
unfoldable pub number_at : Parse ℕ
number_at = word_as (number_of (2 ^ 32))

-- a number with as many digits as a word of the width has
unfoldable pub hexadecimal_at : Width → Parse ℕ
hexadecimal_at w = word_as (hex_of (hex_length w))
