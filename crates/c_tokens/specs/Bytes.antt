-- The bytes of a C text and what they are to its tokens (C17, 6.4 and 7.4.1.10; the C subset, docs/C_SUBSET.md).
use Rattle.std.specs.Prelude.{ℕ, ◌<◌, Bool, false, IsTrue, ◌||◌, ◌==◌, List, [], ◌∷◌, length, codes}
use Rattle.std.specs.List.{list_all}
use Rattle.dt_values.specs.Names.{is_name_byte}

abbrev pub is_among : List ℕ → ℕ → Bool
is_among [] byte = false
is_among (b ∷ bs) byte = b == byte || is_among bs byte

-- space, tab, line feed, vertical tab, form feed, carriage return
abbrev pub white_bytes : List ℕ
white_bytes = 32 ∷ 9 ∷ 10 ∷ 11 ∷ 12 ∷ 13 ∷ []

abbrev pub is_white : ℕ → Bool
is_white byte = is_among white_bytes byte

-- the bytes that are a token each, wherever they stand
abbrev pub mark_bytes : List ℕ
mark_bytes = codes "{}();:,*&."

abbrev pub is_mark : ℕ → Bool
is_mark byte = is_among mark_bytes byte

-- letters, digits and underscores
abbrev pub Letters : List ℕ → Type 0
Letters bytes = IsTrue (list_all is_name_byte bytes)

-- at least one of them
pub record IsWord (bytes : List ℕ) : Type 0 where
  pub some : 0 < length bytes
  pub letters : Letters bytes
