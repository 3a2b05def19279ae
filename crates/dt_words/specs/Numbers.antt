-- Numbers of command words: decimal digits, or `0x` and hexadecimal digits of either case, as many as one likes. The
-- number is below 2^64.
use Rattle.std.specs.Prelude.{ℕ, ◌+◌, ◌-◌, ◌*◌, ◌^◌, Bool, ◌&&◌, nat_le, nat_lt, List, [], ◌∷◌, length, take, drop}
use Rattle.std.specs.Prelude.{Option, Some, None, codes, if◌then◌else◌}
use Rattle.std.specs.List.{list_all}
use Rattle.dt_values.specs.Types.{is_text}

-- what a digit stands for, and 16 for a byte that is none
abbrev pub digit : ℕ → ℕ
digit b =
    if nat_le 48 b && nat_le b 57 then b - 48
    else if nat_le 97 b && nat_le b 102 then b - 87
    else if nat_le 65 b && nat_le b 70 then b - 55
    else 16

abbrev pub is_digit : ℕ → ℕ → Bool
is_digit base b = nat_lt (digit b) base

-- the number of these digits, the first most significant
abbrev pub value : ℕ → List ℕ → ℕ
value base [] = 0
value base (b ∷ bs) = digit b * base ^ length bs + value base bs

-- the number that these digits of a base are, if there is a digit and it is below 2^64
abbrev pub number_in : ℕ → List ℕ → Option ℕ
number_in base digits =
    if nat_lt 0 (length digits) && (list_all (is_digit base) digits && nat_lt (value base digits) (2 ^ 64))
    then Some (value base digits)
    else None

abbrev pub number_of : List ℕ → Option ℕ
number_of text =
    if is_text (take 2 text) (codes "0x") then number_in 16 (drop 2 text)
    else number_in 10 text
