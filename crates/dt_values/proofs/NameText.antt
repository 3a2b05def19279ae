-- A name is text: its bytes are ASCII.
use Rattle.std.proofs.Common.{◌≡◌, ℕ, zero, suc, ◌<◌, ◌&&◌, true, List, [], ◌∷◌, length, arith, lit<}
use Rattle.std.specs.Prelude.{nat_lt, nat_le}
use Rattle.std.specs.List.{list_all}
use Rattle.std.specs.Str.{IsAscii, IsUtf8}
use Rattle.std.proofs.lemmas.Str.{IsUtf8-from_ascii}
use Rattle.std.proofs.lemmas.Bool.{and_parts}
use Rattle.std.proofs.lemmas.Bool.Decides.{nat_tests}
use Rattle.dt_values.specs.Names.{IsName, is_name_byte}
use Rattle.dt_values.specs.declared.name.TheConstants.{LONGEST_NAME}

name_byte_is_ascii : (b : ℕ) → is_name_byte b ≡ true → b < 128
name_byte_is_ascii b h = grind (arith, nat_tests)

name_bytes_are_ascii : (bs : List ℕ) → list_all is_name_byte bs ≡ true → IsAscii bs
name_bytes_are_ascii [] h i = lit< tt
name_bytes_are_ascii (b ∷ bs) h zero = name_byte_is_ascii b (and_parts (is_name_byte b) (list_all is_name_byte bs) h).0
name_bytes_are_ascii (b ∷ bs) h (suc i) = name_bytes_are_ascii bs (and_parts (is_name_byte b) (list_all is_name_byte bs) h).1 i

pub name_is_text : (bs : List ℕ) → IsName bs → IsUtf8 bs
name_is_text bs h =
    let p = and_parts (nat_lt 0 (length bs)) (nat_le (length bs) LONGEST_NAME && list_all is_name_byte bs) h in
    let q = and_parts (nat_le (length bs) LONGEST_NAME) (list_all is_name_byte bs) p.1 in
    IsUtf8-from_ascii bs (name_bytes_are_ascii bs q.1)
