-- Long names in a text, one run of name bytes at a time; faults of a file, one line at a time.
use Rattle.std.proofs.Common.{◌≡◌, ℕ, ◌+◌, ◌-◌, ◌<◌, ◌≤◌, List, length, get_or, drop, Bool, true, false, refl, ap, sym, ◌∙◌, arith}
use Rattle.std.specs.Prelude.{All, Option, Some, None, not, ◌||◌, nat_lt, is_some}
use Rattle.std.specs.List.{between, list_any}
use Rattle.std.specs.Option.{option_or, option_map}
use Rattle.std.proofs.lemmas.Bool.Decides.{nat_tests}
use Rattle.std.proofs.lemmas.List.Edits.{length-between}
use Rattle.std.proofs.lemmas.List.Splits.{slice_split_at, slice_split_none}
use Rattle.std.proofs.lemmas.Slice.{between_to_end}
use Rattle.dt_values.specs.Names.{is_name_byte}
use Rattle.dt_values.specs.declared.name.TheConstants.{LONGEST_NAME}
use Rattle.dt_lines.specs.Lines.{physical_lines}
use Rattle.dt_lines.specs.Faults.{FileFault, has_long_run, fault_of, fault_from, variant_of}
use Rattle.dt_lines.specs.SoFar.{IsLineEnd}
use Rattle.dt_lines.specs.declared.fault.LineFault.{LineFault}
use Rattle.dt_lines.proofs.Pieces.{drop_cut, physical_more}

-- a byte that ends a run of name bytes
abbrev pub ends_run : ℕ → Bool
ends_run b = not (is_name_byte b)

or_false : (b : Bool) → (b || false) ≡ b
or_false true = refl
or_false false = refl

long : (n : ℕ) → LONGEST_NAME < n → nat_lt LONGEST_NAME n ≡ true
long n h = grind (arith, nat_tests)

short : (n : ℕ) → n ≤ LONGEST_NAME → nat_lt LONGEST_NAME n ≡ false
short n h = grind (arith, nat_tests)

run_cut : (xs : List ℕ) (s i d : ℕ) → s ≤ i → i < length xs → All (λ x. ends_run x ≡ false) (between s i xs) → ends_run (get_or xs i d) ≡ true
    → has_long_run (drop s xs) ≡ (nat_lt LONGEST_NAME (i - s) || has_long_run (drop (i + 1) xs))
run_cut xs s i d h k none ends =
    let e : length (between s i xs) ≡ i - s = length-between xs s i (omega arith) in
    ap has_long_run (drop_cut xs s i d h k)
    ∙ ap (list_any (λ run. nat_lt LONGEST_NAME (length run))) (slice_split_at ends_run (between s i xs) (get_or xs i d) (drop (i + 1) xs) none ends)
    ∙ ap (λ n. nat_lt LONGEST_NAME n || has_long_run (drop (i + 1) xs)) e

-- a run that is long
pub run_found : (xs : List ℕ) (s i d : ℕ) (whole : Bool) → s ≤ i → i < length xs → All (λ x. ends_run x ≡ false) (between s i xs) → ends_run (get_or xs i d) ≡ true
    → LONGEST_NAME < i - s → has_long_run (drop s xs) ≡ whole → true ≡ whole
run_found xs s i d whole h k none ends over is = sym (run_cut xs s i d h k none ends ∙ ap (λ b. b || has_long_run (drop (i + 1) xs)) (long (i - s) over)) ∙ is

-- a run that isn't
pub run_passed : (xs : List ℕ) (s i d : ℕ) (whole : Bool) → s ≤ i → i < length xs → All (λ x. ends_run x ≡ false) (between s i xs) → ends_run (get_or xs i d) ≡ true
    → i - s ≤ LONGEST_NAME → has_long_run (drop s xs) ≡ whole → has_long_run (drop (i + 1) xs) ≡ whole
run_passed xs s i d whole h k none ends under is = sym (run_cut xs s i d h k none ends ∙ ap (λ b. b || has_long_run (drop (i + 1) xs)) (short (i - s) under)) ∙ is

-- the last run
pub run_last : (xs : List ℕ) (s i : ℕ) (whole : Bool) → s ≤ i → i ≤ length xs → length xs ≤ i → All (λ x. ends_run x ≡ false) (between s i xs)
    → has_long_run (drop s xs) ≡ whole → nat_lt LONGEST_NAME (length xs - s) ≡ whole
run_last xs s i whole h k l none is =
    let e : length (between s i xs) ≡ length xs - s = length-between xs s i k ∙ omega arith in
    sym (ap has_long_run (sym (between_to_end xs s i l))
    ∙ ap (list_any (λ run. nat_lt LONGEST_NAME (length run))) (slice_split_none ends_run (between s i xs) none)
    ∙ ap (λ n. nat_lt LONGEST_NAME n || false) e ∙ or_false (nat_lt LONGEST_NAME (length xs - s))) ∙ is

no_variant : (x : Option FileFault) → is_some (option_map variant_of x) ≡ false → x ≡ None
no_variant None h = refl
no_variant (Some f) h = cc

some_variant : (x later : Option FileFault) → is_some (option_map variant_of x) ≡ true → option_or x later ≡ x
some_variant None later h = cc
some_variant (Some f) later h = refl

-- the fault of the first physical line that has one, of those that are left
abbrev pub fault_left : ℕ → ℕ → List ℕ → Option FileFault
fault_left number at bytes = fault_from number (physical_lines (drop at bytes))

-- a line with a fault
pub fault_found : (bytes : List ℕ) (at end number : ℕ) (found : Option LineFault) (whole : Option FileFault) → at < length bytes → IsLineEnd bytes at end
    → found ≡ option_map variant_of (fault_of number (between at end bytes)) → is_some found ≡ true
    → fault_left number at bytes ≡ whole → found ≡ option_map variant_of whole
fault_found bytes at end number found whole l e is some all =
    is ∙ ap (option_map variant_of)
    (sym (some_variant (fault_of number (between at end bytes)) (fault_left (number + 1) (end + 1) bytes) (sym (ap is_some is) ∙ some))
    ∙ sym (ap (fault_from number) (physical_more bytes at end l e)) ∙ all)

-- a line without
pub fault_passed : (bytes : List ℕ) (at end number : ℕ) (found : Option LineFault) (whole : Option FileFault) → at < length bytes → IsLineEnd bytes at end
    → found ≡ option_map variant_of (fault_of number (between at end bytes)) → is_some found ≡ false
    → fault_left number at bytes ≡ whole → fault_left (number + 1) (end + 1) bytes ≡ whole
fault_passed bytes at end number found whole l e is no_fault all =
    ap (λ x. option_or x (fault_left (number + 1) (end + 1) bytes)) (sym (no_variant (fault_of number (between at end bytes)) (sym (ap is_some is) ∙ no_fault)))
    ∙ sym (ap (fault_from number) (physical_more bytes at end l e)) ∙ all
