-- How a faulty word is printed, and the code of what is wrong with it.
use Rattle.std.specs.Prelude.{ℕ, ◌+◌, nat_lt, List, [], ◌∷◌, take, codes, if◌then◌else◌}
use Rattle.dt_words.specs.Roles.{is_long, long_name}
use Rattle.dt_words.specs.declared.usage.Usage.{Usage}
use Rattle.dt_words.specs.declared.usage.Usage.TheVariants as usage

-- how many bytes a character has that begins with this one (RFC 3629, 3)
abbrev pub character_length : ℕ → ℕ
character_length b =
    if nat_lt b 128 then 1
    else if nat_lt b 224 then 2
    else if nat_lt b 240 then 3
    else 4

-- a short option as its dash and its letter, which is a whole character
abbrev pub printed_short : List ℕ → List ℕ
printed_short [] = []
printed_short (dash ∷ []) = dash ∷ []
printed_short (dash ∷ letter ∷ rest) = take (1 + character_length letter) (dash ∷ letter ∷ rest)

-- an option without its value: a long one up to the first `=`
abbrev pub printed_option : List ℕ → List ℕ
printed_option word = if is_long word then long_name word else printed_short word

-- what is printed of the faulty word
abbrev pub printed_word : Usage → List ℕ → List ℕ
printed_word usage.U1 word = word
printed_word usage.U2 word = printed_option word
printed_word usage.U3 word = printed_option word
printed_word usage.U4 word = word
printed_word usage.U5 word = word
printed_word usage.U6 word = []
printed_word usage.U7 word = word
printed_word usage.U8 word = word

abbrev pub usage_code : Usage → List ℕ
usage_code usage.U1 = codes "U1"
usage_code usage.U2 = codes "U2"
usage_code usage.U3 = codes "U3"
usage_code usage.U4 = codes "U4"
usage_code usage.U5 = codes "U5"
usage_code usage.U6 = codes "U6"
usage_code usage.U7 = codes "U7"
usage_code usage.U8 = codes "U8"
