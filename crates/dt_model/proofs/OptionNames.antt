-- Names that options give.
use Rattle.std.proofs.Common.{ℕ, List, [], ◌∷◌, length, refl, arith}
use Rattle.std.specs.Prelude.{IsTrue, nat_lt, nat_le}
use Rattle.std.specs.List.{list_all}
use Rattle.std.proofs.lemmas.Bool.Decides.{nat_tests}
use Rattle.dt_values.specs.Names.{IsName, is_name_byte}
use Rattle.dt_values.specs.declared.name.TheConstants.{LONGEST_NAME}
use Rattle.dt_model.specs.Options.{IsOptionName}

-- name bytes, at least one and few enough, are a name
bytes_named : (bytes : List ℕ) → IsTrue (nat_lt 0 (length bytes)) → IsTrue (nat_le (length bytes) LONGEST_NAME) → IsTrue (list_all is_name_byte bytes) → IsName bytes
bytes_named bytes some short all = rw (some, short, all) refl

some_byte : (decode : List ℕ) → IsOptionName decode → IsTrue (nat_lt 0 (length decode))
some_byte [] h = absurd (let e = h.begins in cc)
some_byte (b ∷ bs) h = grind (arith, nat_tests)

-- a name that an option may give is a name
pub option_named : (decode : List ℕ) → IsOptionName decode → IsName decode
option_named decode h = bytes_named decode (some_byte decode h) (grind (arith, nat_tests, h.short)) h.name_bytes
