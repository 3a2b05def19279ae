-- Tokens that texts of the C subset are spelled with.
use Rattle.std.specs.Prelude.{ℕ, List, ◌++◌, codes}
use Rattle.dt_values.specs.declared.width.Width.{Width}
use Rattle.c_tokens.specs.Tokens.{Token, word, mark}
use Rattle.c_tokens.specs.Words.{hex_bytes}

-- the single bytes that are spelled: ( ) { } ; : , * & . - =
abbrev pub open_round : Token
open_round = mark 40

abbrev pub close_round : Token
close_round = mark 41

abbrev pub open_brace : Token
open_brace = mark 123

abbrev pub close_brace : Token
close_brace = mark 125

abbrev pub semicolon : Token
semicolon = mark 59

abbrev pub colon : Token
colon = mark 58

abbrev pub comma : Token
comma = mark 44

abbrev pub asterisk : Token
asterisk = mark 42

abbrev pub ampersand : Token
ampersand = mark 38

abbrev pub dot : Token
dot = mark 46

abbrev pub minus : Token
minus = mark 45

abbrev pub equals : Token
equals = mark 61

-- the word of a set's struct, and that of its place in the union
abbrev pub arg_ : List ℕ → Token
arg_ set = word (codes "arg_" ++ set)

abbrev pub f_ : List ℕ → Token
f_ set = word (codes "f_" ++ set)

-- a number with as many hexadecimal digits as a word of the width has
abbrev pub hex_word : Width → ℕ → Token
hex_word w n = word (hex_bytes w n)
