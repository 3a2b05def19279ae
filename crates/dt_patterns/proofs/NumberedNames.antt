-- The decoder's name with a number behind it is a name.
use Rattle.std.proofs.Common.{◌≡◌, ℕ, ◌+◌, ◌^◌, ◌<◌, ◌≤◌, ◌&&◌, Bool, true, List, [], ◌∷◌, ◌++◌, length, refl, ap, ◌∙◌, arith, length-append}
use Rattle.std.specs.Prelude.{nat_lt, nat_le}
use Rattle.std.specs.Fmt.{decimal}
use Rattle.std.specs.Char.{digit_value}
use Rattle.std.specs.Str.Parse.{AllDigits}
use Rattle.std.specs.List.{list_all}
use Rattle.std.proofs.lemmas.Bool.Decides.{nat_tests}
use Rattle.std.proofs.lemmas.List.Folds.{list_all-append}
use Rattle.std.proofs.lemmas.Fmt.{decimal_is_IsNumeral, length-decimal-le}
use Rattle.dt_values.specs.Names.{IsName, is_name_byte}
use Rattle.dt_values.specs.declared.name.TheConstants.{LONGEST_NAME}
use Rattle.dt_model.specs.Options.{IsOptionName}

digit_is_name_byte : (c : ℕ) → digit_value c < 10 → is_name_byte c ≡ true
digit_is_name_byte c h = grind (arith, nat_tests)

both : (a b : Bool) → a ≡ true → b ≡ true → (a && b) ≡ true
both a b h k = ap (λ x. x && b) h ∙ k

digits_are_name_bytes : (ds : List ℕ) → AllDigits 10 ds → list_all is_name_byte ds ≡ true
digits_are_name_bytes [] h = refl
digits_are_name_bytes (c ∷ cs) h = both (is_name_byte c) (list_all is_name_byte cs) (digit_is_name_byte c h.0)
    (digits_are_name_bytes cs h.1)

positive : (n : ℕ) → 0 < n → nat_lt 0 n ≡ true
positive n h = grind (arith, nat_tests)

short : (n : ℕ) → n ≤ LONGEST_NAME → nat_le n LONGEST_NAME ≡ true
short n h = grind (arith, nat_tests)

at_most : (n m : ℕ) → nat_le n m ≡ true → n ≤ m
at_most n m h = grind (arith, nat_tests)

pub numbered_is_name : (decode middle : List ℕ) (n : ℕ) → IsOptionName decode → list_all is_name_byte middle ≡ true
    → length middle ≤ 5 → n < 2 ^ 64 → IsName (decode ++ (middle ++ decimal n))
numbered_is_name decode middle n h bytes few fits =
    let small : length decode ≤ 100 = at_most (length decode) 100 h.short in
    let own : list_all is_name_byte decode ≡ true = h.name_bytes in
    let digits : list_all is_name_byte (decimal n) ≡ true =
    digits_are_name_bytes (decimal n) (decimal_is_IsNumeral n fits).0.1 in
    let some : 0 < length (decimal n) = (decimal_is_IsNumeral n fits).0.0 in
    let most : length (decimal n) ≤ 20 = length-decimal-le 20 n (omega arith) (omega arith) fits in
    let behind : length (middle ++ decimal n) ≡ length middle + length (decimal n) = length-append middle (decimal n) in
    let whole : length (decode ++ (middle ++ decimal n)) ≡ length decode + length (middle ++ decimal n) =
    length-append decode (middle ++ decimal n) in
    let all : list_all is_name_byte (decode ++ (middle ++ decimal n)) ≡ true =
    list_all-append is_name_byte decode (middle ++ decimal n)
    ∙ both (list_all is_name_byte decode) (list_all is_name_byte (middle ++ decimal n)) own
    (list_all-append is_name_byte middle (decimal n)
    ∙ both (list_all is_name_byte middle) (list_all is_name_byte (decimal n)) bytes digits) in
    let text : List ℕ = decode ++ (middle ++ decimal n) in
    both (nat_lt 0 (length text)) (nat_le (length text) LONGEST_NAME && list_all is_name_byte text)
    (positive (length text) (omega arith))
    (both (nat_le (length text) LONGEST_NAME) (list_all is_name_byte text) (short (length text) (omega arith)) all)
