-- What a word spells, as functions of its bytes.
use Rattle.std.specs.Prelude.{ℕ, ◌==◌, ◌+◌, ◌*◌, ◌-◌, ◌^◌, ◌&&◌, nat_lt, nat_eq, cond, List, [], ◌∷◌, ◌++◌, length, take}
use Rattle.std.specs.Prelude.{drop, Option, Some, None, option_and_then, codes, decimal}
use Rattle.std.specs.Cmp.Lexicographic.{pointwise}
use Rattle.dt_values.specs.Names.{is_name}
use Rattle.dt_text.specs.Hexadecimal.{hex}
use Rattle.c_tokens.specs.Words.{digits_value}

-- what stands behind these bytes
unfoldable pub strip : List ℕ → List ℕ → Option (List ℕ)
strip [] w = Some w
strip (f ∷ fs) [] = None
strip (f ∷ fs) (b ∷ bs) = cond (f == b) (strip fs bs) None

abbrev pub name_of : List ℕ → Option (List ℕ)
name_of w = cond (is_name w) (Some w) None

abbrev pub name_behind : List ℕ → List ℕ → Option (List ℕ)
name_behind fixed w = option_and_then name_of (strip fixed w)

unfoldable pub number_of : ℕ → List ℕ → Option ℕ
number_of limit w = cond (nat_lt (digits_value 0 w) limit && pointwise nat_eq w (decimal (digits_value 0 w))) (Some (digits_value 0 w)) None

abbrev pub glyph_value : ℕ → ℕ
glyph_value b = cond (nat_lt b 58) (b - 48) (b - 87)

unfoldable pub hex_value : ℕ → List ℕ → ℕ
hex_value n [] = n
hex_value n (b ∷ bs) = hex_value (16 * n + glyph_value b) bs

unfoldable pub hex_of : ℕ → List ℕ → Option ℕ
hex_of k w = cond (nat_lt (hex_value 0 (drop 2 w)) (16 ^ k) && pointwise nat_eq w (codes "0x" ++ hex k (hex_value 0 (drop 2 w)))) (Some (hex_value 0 (drop 2 w))) None

-- what stands before these bytes at the end
unfoldable pub strip_end : List ℕ → List ℕ → Option (List ℕ)
strip_end fixed w = cond (pointwise nat_eq (drop (length w - length fixed) w) fixed) (Some (take (length w - length fixed) w)) None

abbrev pub name_before : List ℕ → List ℕ → Option (List ℕ)
name_before fixed w = option_and_then name_of (strip_end fixed w)
