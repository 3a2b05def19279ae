-- What files with too many lines or a long name break first.
use Rattle.std.proofs.Common.{◌≡◌, ◌↔◌, ℕ, zero, suc, ◌+◌, ◌<◌, List, [], ◌∷◌, length, get_or, Option, Some, None, refl, ap, sym, ◌∙◌, subst, arith}
use Rattle.std.specs.Prelude.{Err, IsErrOf}
use Rattle.std.specs.Option.{option_map, option_or}
use Rattle.dt_lines.specs.Faults.{FileFault, too_many_lines, long_name}
use Rattle.dt_lines.specs.declared.fault.LineFault.{LineFault}
use Rattle.dt_lines.specs.declared.fault.LineFault.TheVariants as of_lines
use Rattle.dt_forms.specs.declared.fault.ModelFault.{ModelFault}
use Rattle.dt_forms.specs.declared.fault.ModelFault.TheVariants as of_files
use Rattle.dt_forms.specs.FileFaults.{HaveNoFileFault, fault_in_file, fault_of_files, file_fault, first_broken, model_fault}
use Rattle.dt_model.specs.declared.options.Options.{Options}
use Rattle.dt_forms.specs.Rules.{Fault, first_fault}
use Rattle.dt_forms.specs.View.{FileBroken}

-- what a reader of lines answers is the first fault of the file
abbrev pub IsTooManyLines : (T : Type 0) → LineFault → Option FileFault → Type 0
IsTooManyLines T fault first = IsErrOf {T = T} (Err fault) of_lines.TooManyLines ↔ (first ≡ Some too_many_lines)

abbrev pub IsLongName : (T : Type 0) → LineFault → Option FileFault → Type 0
IsLongName T fault first = (line : ℕ) → IsErrOf {T =
    T} (Err fault) (of_lines.LongName line) ↔ (first ≡ Some (long_name line))

pub broken_file : (T : Type 0) (bytes : List ℕ) (file : ℕ) (first : Option FileFault) (fault : LineFault)
    (answer : ModelFault)
    → answer ≡ model_fault file fault → IsTooManyLines T fault first → IsLongName T fault first
    → FileBroken bytes file answer (option_map (fault_in_file file) first)
broken_file T bytes file first fault answer is many long =
    subst (λ a. FileBroken bytes file a (option_map (fault_in_file file) first)) (sym is) (by_fault fault many long)
  where
    by_fault : (f : LineFault) → IsTooManyLines T f first → IsLongName T f first
        → FileBroken bytes file (model_fault file f) (option_map (fault_in_file file) first)
    by_fault of_lines.TooManyLines many long =
        (record { same = sym (ap (option_map (fault_in_file file)) (many.0 refl)); within = tt }, refl)
    by_fault (of_lines.LongName line) many long =
        (record { same = sym (ap (option_map (fault_in_file file)) ((long line).0 refl)); within = tt }, refl)
    by_fault of_lines.NoMemory many long = tt

no_fault : (T : Type 0) (first : Option FileFault) → IsTooManyLines T of_lines.NoMemory first
    → IsLongName T of_lines.NoMemory first → first ≡ None
no_fault T None many long = refl
no_fault T (Some too_many_lines) many long = absurd (let e = many.1 refl in cc)
no_fault T (Some (long_name line)) many long = absurd (let e = (long line).1 refl in cc)

pub whole_without_memory : (T : Type 0) (file : ℕ) (first : Option FileFault) (fault : LineFault) (answer : ModelFault)
    → answer ≡ model_fault file fault → IsTooManyLines T fault first → IsLongName T fault first
    → answer ≡ of_files.NoMemory → option_map (fault_in_file file) first ≡ None
whole_without_memory T file first fault answer is many long none = by_fault fault many long (sym is ∙ none)
  where
    by_fault : (f : LineFault) → IsTooManyLines T f first → IsLongName T f first
        → model_fault file f ≡ of_files.NoMemory → option_map (fault_in_file file) first ≡ None
    by_fault of_lines.TooManyLines many long e = absurd (cc)
    by_fault (of_lines.LongName line) many long e = absurd (cc)
    by_fault of_lines.NoMemory many long e = ap (option_map (fault_in_file file)) (no_fault T first many long)

-- files of which none has a fault
none_of_files : (file : ℕ) (texts : List (List ℕ))
    → ((place : ℕ) (text : List ℕ) → place < length texts → file_fault (file + place) (get_or texts place text) ≡ None)
    → fault_of_files file texts ≡ None
none_of_files file [] whole = refl
none_of_files file (text ∷ texts) whole =
    let here : file_fault file text ≡ None =
    ap (λ n. file_fault n text) (let e : file ≡ file + 0 = omega arith in e) ∙ whole 0 text (omega arith) in
    ap (λ o. option_or o (fault_of_files (file + 1) texts)) here
    ∙ none_of_files (file + 1) texts (λ place t h. ap (λ n. file_fault n (get_or texts place t))
    (let e : file + 1 + place ≡ file + suc place = omega arith in e) ∙ whole (suc place) t (omega arith))

pub lines_break_first : (options : Options) (texts : List (List ℕ)) → HaveNoFileFault texts
    → first_broken options texts ≡ first_fault options texts
lines_break_first options texts whole =
    ap (λ o. option_or o (first_fault options texts))
    (none_of_files 0 texts (λ place t h. ap (λ n. file_fault n (get_or texts place t)) (let e : 0 + place ≡ place =
    omega arith in e) ∙ whole place t h))

-- the first of files that has one
first_of_files : (file place : ℕ) (texts : List (List ℕ)) (text : List ℕ) (fault : Fault)
    → ((earlier : ℕ) → earlier < place → file_fault (file + earlier) (get_or texts earlier text) ≡ None)
    → place < length texts → file_fault (file + place) (get_or texts place text) ≡ Some fault
    → fault_of_files file texts ≡ Some fault
first_of_files file place [] text fault whole h is = absurd (omega arith)
first_of_files file zero (t ∷ texts) text fault whole h is =
    ap (λ o. option_or o (fault_of_files (file + 1) texts))
    (ap (λ n. file_fault n t) (let e : file ≡ file + 0 = omega arith in e) ∙ is)
first_of_files file (suc place) (t ∷ texts) text fault whole h is =
    let here : file_fault file t ≡ None = ap (λ n. file_fault n t) (let e : file ≡ file + 0 = omega arith in e)
    ∙ whole 0 (omega arith) in
    let next : (n : ℕ) → file + 1 + n ≡ file + suc n = λ n. omega arith in
    ap (λ o. option_or o (fault_of_files (file + 1) texts)) here
    ∙ first_of_files (file + 1) place texts text fault (λ n low. ap (λ m. file_fault m (get_or texts n text)) (next n)
    ∙ whole (suc n) (omega arith)) (omega arith)
    (ap (λ m. file_fault m (get_or texts place text)) (next place) ∙ is)

pub file_breaks_first : (options : Options) (place : ℕ) (texts : List (List ℕ)) (text : List ℕ) (fault : Fault)
    → ((earlier : ℕ) → earlier < place → file_fault earlier (get_or texts earlier text) ≡ None)
    → place < length texts → file_fault place (get_or texts place text) ≡ Some fault
    → first_broken options texts ≡ Some fault
file_breaks_first options place texts text fault whole h is =
    let same : (n : ℕ) → 0 + n ≡ n = λ n. omega arith in
    ap (λ o. option_or o (first_fault options texts))
    (first_of_files 0 place texts text fault (λ n low. ap (λ m. file_fault m (get_or texts n text)) (same n)
    ∙ whole n low) h (ap (λ m. file_fault m (get_or texts place text)) (same place) ∙ is))
