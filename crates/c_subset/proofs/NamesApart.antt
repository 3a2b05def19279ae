-- Names that differ, list by list.
use Rattle.std.proofs.Common.{◌≡◌, ℕ, ◌+◌, ◌<◌, ◌≤◌, List, [], ◌∷◌, length, get_or, take, map, refl, ap, subst}
use Rattle.std.specs.List.{All}
use Rattle.std.proofs.lemmas.List.{take_all}
use Rattle.std.proofs.lemmas.List.Elements.{All-more}
use Rattle.dt_values.specs.declared.set.SetDef.{SetDef}
use Rattle.c_subset.specs.Distinct.{HasDistinctArguments}
use Rattle.c_subset.specs.Programs.{Name}
use Rattle.c_subset.specs.View.{pattern_of, extraction_of}
use Rattle.c_subset.specs.declared.program.Extract.{Extract}

pub distinct_more : (sets : List SetDef) (i : ℕ) (set : SetDef) → i < length sets → set ≡ get_or sets i set
    → All HasDistinctArguments (take i sets) → HasDistinctArguments set → All HasDistinctArguments (take (i + 1) sets)
distinct_more sets i set l is before here =
    All-more HasDistinctArguments sets i set l before (subst HasDistinctArguments is here)

pub all_taken : (sets : List SetDef) (i : ℕ) → length sets ≤ i → All HasDistinctArguments (take i sets)
    → All HasDistinctArguments sets
all_taken sets i l h = subst (All HasDistinctArguments) (take_all i sets l) h

pub patterns_seen : (patterns : List (Name × Name))
    → map (λ q. q.name) (map pattern_of patterns) ≡ map (λ p. p.0) patterns
patterns_seen [] = refl
patterns_seen (p ∷ ps) = ap (λ names. p.0 ∷ names) (patterns_seen ps)

pub formats_seen : (extracts : List Extract)
    → map (λ e. e.format) (map extraction_of extracts) ≡ map (λ e. e.format) extracts
formats_seen [] = refl
formats_seen (e ∷ es) = ap (λ names. e.format ∷ names) (formats_seen es)
