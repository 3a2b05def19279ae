-- Numbers of pattern files (docs/devel/decodetree.rst, "Fields"): decimal digits, as many as one likes.
use Rattle.std.specs.Prelude.{ℕ, ◌+◌, ◌-◌, ◌*◌, ◌^◌, Bool, List, [], ◌∷◌, ◌&&◌, length, not}
use Rattle.std.specs.Char.{is_ascii_digit}
use Rattle.std.specs.List.{list_all}
use Rattle.dt_lines.specs.Lines.{is_empty}

abbrev pub is_number : List ℕ → Bool
is_number text = not (is_empty text) && list_all is_ascii_digit text

-- the number of decimal digits, the first most significant
abbrev pub decimal : List ℕ → ℕ
decimal [] = 0
decimal (b ∷ bs) = (b - 48) * 10 ^ length bs + decimal bs
