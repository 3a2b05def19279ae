-- What is made of a C text, or said of it, is due.
use Rattle.std.proofs.Common.{◌≡◌, ℕ, Bool, cond, List, [], ◌∷◌, map, Option, Some, Result, Ok, Err, refl, sym, ap, ◌∙◌}
use Rattle.std.specs.Prelude.{◌||◌, not, nat_eq, find, IfOk, IsErrOf, Vec}
use Rattle.std.specs.Cmp.Lexicographic.{pointwise}
use Rattle.std.specs.List.{list_any}
use Rattle.dt_values.specs.declared.set.SetDef.{SetDef}
use Rattle.c_tokens.specs.Before.{tokens_before}
use Rattle.c_tokens.specs.Depth.{IsTooDeep}
use Rattle.c_subset.specs.Programs.{Pattern, Program}
use Rattle.c_subset.specs.Readings.{too_deep, not_subset, of_program}
use Rattle.c_subset.specs.Spells.{Spells, SpellsNone}
use Rattle.c_subset.specs.declared.fault.CFault.{CFault}
use Rattle.c_subset.specs.declared.fault.CFault.TheVariants as faults
use Rattle.c_subset.specs.View.{pattern_of}
use Rattle.dt_tool.specs.Evaluations.{Evaluation, due_of_program, first_undeclared, is_declared, IsDueOfCText}
use Rattle.dt_tool.specs.Refusals.{SaysUnreadText}
use Rattle.dt_tool.specs.Stops.{MakesDue}
use Rattle.dt_tool.specs.Tasks.{Due}
use Rattle.dt_tool.specs.declared.stop.Stop.{Stop}
use Rattle.dt_tool.specs.declared.stop.Stop.TheVariants as stops

-- what is made due by one rule is made due by another that follows from it
pub made_by : {A : Type 0} (P Q : Due → Type 0) (result : Result (Vec ℕ A) Stop) → ((what : Due) → P what → Q what)
    → MakesDue result P → MakesDue result Q
made_by P Q (Ok text) f h = f _ h
made_by P Q (Err (stops.ReadFault message)) f h = h
made_by P Q (Err (stops.Refused message)) f h = f _ h
made_by P Q (Err stops.NoMemory) f h = tt

-- of the program of a text
pub spelled_due : {A : Type 0} (e : Evaluation) (text : List ℕ) (program : Program) (result : Result (Vec ℕ A) Stop)
    → ¬ IsTooDeep (tokens_before text) → Spells text program
    → MakesDue result (λ what. due_of_program e program ≡ what) → MakesDue result (IsDueOfCText e text)
spelled_due e text program result flat spells made =
    made_by (λ what. due_of_program e program ≡ what) (IsDueOfCText e text) result
    (λ what is. record { reading = of_program program; stands = (flat, spells); due = is }) made

-- of a text that no program is read of
pub unread_due : (A T : Type 0) (e : Evaluation) (text : List ℕ) (fault : CFault) (stop : Stop)
    → (IsErrOf {T = T} (Err fault) faults.TooDeep → IsTooDeep (tokens_before text))
    → (IsErrOf {T = T} (Err fault) faults.NotSubset → ¬ IsTooDeep (tokens_before text))
    → (IsErrOf {T = T} (Err fault) faults.NotSubset → SpellsNone text) → SaysUnreadText fault stop
    → MakesDue {A = A} (Err stop) (IsDueOfCText e text)
unread_due A T e text faults.TooDeep (stops.ReadFault message) deep flat none says = says
unread_due A T e text faults.TooDeep (stops.Refused message) deep flat none says =
    record { reading = too_deep; stands = deep refl; due = sym says }
unread_due A T e text faults.TooDeep stops.NoMemory deep flat none says = tt
unread_due A T e text faults.NotSubset (stops.ReadFault message) deep flat none says = says
unread_due A T e text faults.NotSubset (stops.Refused message) deep flat none says =
    record { reading = not_subset; stands = (flat refl, none refl); due = sym says }
unread_due A T e text faults.NotSubset stops.NoMemory deep flat none says = tt
unread_due A T e text faults.NoMemory (stops.ReadFault message) deep flat none says = absurd (cc)
unread_due A T e text faults.NoMemory (stops.Refused message) deep flat none says = absurd (cc)
unread_due A T e text faults.NoMemory stops.NoMemory deep flat none says = tt

-- nothing more is asked of the text
pub nothing_more : {A B : Type 0} (result : Result A B) → IfOk result (λ text. Unit {0})
nothing_more (Ok text) = tt
nothing_more (Err stop) = tt

-- ---- the first set that isn't declared
found_alike : (f g : List ℕ → Bool) (names : List (List ℕ)) → ((name : List ℕ) → f name ≡ g name)
    → find f names ≡ find g names
found_alike f g [] same = refl
found_alike f g (name ∷ names) same =
    ap (λ (b : Bool). cond b (Some name) (find f names)) (same name)
    ∙ ap (λ (found : Option (List ℕ)). cond (g name) (Some name) found) (found_alike f g names same)

declared_by_name : (sets : List SetDef) (name : List ℕ)
    → list_any (pointwise nat_eq name) (map (λ s. s.name) sets) ≡ is_declared sets name
declared_by_name [] name = refl
declared_by_name (s ∷ sets) name = ap (λ (b : Bool). pointwise nat_eq name s.name || b) (declared_by_name sets name)

sets_of_patterns : (patterns : List (List ℕ × List ℕ))
    → map (λ p. p.1) patterns ≡ map (λ (p : Pattern). p.set) (map pattern_of patterns)
sets_of_patterns [] = refl
sets_of_patterns (p ∷ ps) = ap (λ l. p.1 ∷ l) (sets_of_patterns ps)

-- by a test of names that holds for those of declared sets
pub first_undeclared_found : (sets : List SetDef) (patterns : List (List ℕ × List ℕ)) (has : List ℕ → Bool)
    → ((name : List ℕ) → has name ≡ list_any (pointwise nat_eq name) (map (λ s. s.name) sets))
    → find (λ set. not (has set)) (map (λ p. p.1) patterns) ≡ first_undeclared sets (map pattern_of patterns)
first_undeclared_found sets patterns has same =
    found_alike (λ set. not (has set)) (λ set. not (is_declared sets set)) (map (λ p. p.1) patterns)
    (λ name. ap not (same name ∙ declared_by_name sets name))
    ∙ ap (find (λ set. not (is_declared sets set))) (sets_of_patterns patterns)
