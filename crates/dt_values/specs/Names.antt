-- What a name is, after the names of docs/devel/decodetree.rst: 1 to 128 letters, digits and underscores.
use Rattle.std.specs.Prelude.{ℕ, ◌-◌, Bool, IsTrue, ◌||◌, ◌&&◌, ◌==◌, nat_lt, nat_le, List, ◌++◌, length, replicate}
use Rattle.std.specs.Char.{is_ascii_alphanumeric}
use Rattle.std.specs.List.{list_all}
use Rattle.dt_values.specs.declared.name.TheConstants.{LONGEST_NAME}

abbrev pub is_name_byte : ℕ → Bool
is_name_byte b = is_ascii_alphanumeric b || (b == 95)

abbrev pub is_name : List ℕ → Bool
is_name bytes = nat_lt 0 (length bytes) && (nat_le (length bytes) LONGEST_NAME && list_all is_name_byte bytes)

abbrev pub IsName : List ℕ → Type 0
IsName bytes = IsTrue (is_name bytes)

-- how a name lies in the bytes of its array: behind it are zeros
abbrev pub name_array : List ℕ → List ℕ
name_array bytes = bytes ++ replicate (LONGEST_NAME - length bytes) 0
