-- Sets that a run may be handed.
use Rattle.std.proofs.Common.{◌≡◌, ◌≢◌, ℕ, zero, suc, ◌<◌, ◌≤◌, List, [], ◌∷◌, length, get_or, map, refl, ap, sym}
use Rattle.std.proofs.Common.{subst, ◌∙◌, arith}
use Rattle.std.specs.Prelude.{All, AllPairs}
use Rattle.std.proofs.lemmas.List.Elements.{All-cons, All-nil}
use Rattle.std.proofs.lemmas.List.Kept.{AllPairs-cons}
use Rattle.dt_values.specs.declared.ctype.Member.{Member}
use Rattle.dt_values.specs.declared.set.SetDef.{SetDef}
use Rattle.c_subset.specs.Keeps.{SetKeeps, KeepsRules}
use Rattle.c_subset.specs.Programs.{Program}
use Rattle.c_eval.specs.Conditions.{ArgumentsKeep, SetRuns}

abbrev Differ : Member → Member → Type 0
Differ a b = a.name ≢ b.name

-- ---- sets made by hand
pub one_alone : (m : Member) → ArgumentsKeep (m ∷ [])
one_alone m = record { few = omega arith; differ = λ i j d lt within. absurd (omega arith) }

pub two_different : (m n : Member) → m.name ≢ n.name → ArgumentsKeep (m ∷ n ∷ [])
two_different m n h = record {
  few = omega arith;
  differ = AllPairs-cons Differ m (n ∷ [])
      (All-cons (Differ m) n [] h (All-nil (Differ m)))
      (λ i j d lt within. absurd (omega arith));
}

pub no_set : All SetRuns []
no_set = All-nil SetRuns

pub one_set : (a : SetDef) → SetRuns a → All SetRuns (a ∷ [])
one_set a h = All-cons SetRuns a [] h (All-nil SetRuns)

pub two_sets : (a b : SetDef) → SetRuns a → SetRuns b → All SetRuns (a ∷ b ∷ [])
two_sets a b h k = All-cons SetRuns a (b ∷ []) h (All-cons SetRuns b [] k (All-nil SetRuns))

-- ---- the sets of a program that keeps the rules
name_at : (ms : List Member) (i : ℕ) (d : Member)
    → get_or (map (λ (m : Member). m.name) ms) i d.name ≡ (get_or ms i d).name
name_at [] i d = refl
name_at (m ∷ ms) zero d = refl
name_at (m ∷ ms) (suc i) d = name_at ms i d

names_long : (ms : List Member) → length (map (λ (m : Member). m.name) ms) ≡ length ms
names_long [] = refl
names_long (m ∷ ms) = let e = names_long ms in omega arith

pub set_runs : (s : SetDef) → SetKeeps s → SetRuns s
set_runs s h = record {
  few = h.few;
  differ = λ i j d lt within e.
      h.arguments_differ i j d.name lt (subst (λ n. j < n) (sym (names_long s.members)) within)
      (name_at s.members i d ∙ e ∙ sym (name_at s.members j d));
}

pub sets_run : (program : Program) → KeepsRules program → All SetRuns program.sets
sets_run program h = λ i d within. set_runs (get_or program.sets i d) (h.sets_keep i d within)
