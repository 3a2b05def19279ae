-- Patterns of a name and of another set.
use Rattle.std.proofs.Common.{◌≡◌, ℕ, ◌==◌, ◌&&◌, ◌||◌, Bool, true, false, List, [], ◌∷◌, refl}
use Rattle.std.specs.Prelude.{not}
use Rattle.std.proofs.lemmas.Bool.{true≢false}
use Rattle.std.specs.List.{list_any}
use Rattle.dt_values.specs.Types.{is_text}
use Rattle.dt_patterns.specs.LineNames.{has_other_set}
use Rattle.dt_model.specs.View.{set_number}
use Rattle.dt_scope.specs.Scope.{pattern_names}
use Rattle.dt_model.specs.declared.format.Format.{Format}
use Rattle.dt_model.specs.declared.pattern.Pattern.{Pattern}

none_of : (here other names rest : Bool) → (here || names) ≡ false → (names ≡ false → rest ≡ false)
    → ((other && here) || rest) ≡ false
none_of true other names rest h more = absurd (true≢false h)
none_of false true names rest h more = more h
none_of false false names rest h more = more h

-- where no pattern has a name, no pattern of another set has it
pub no_other : (formats : List Format) (patterns : List Pattern) (set : ℕ) (name : List ℕ)
    → list_any (is_text name) (pattern_names patterns) ≡ false → has_other_set formats patterns set name ≡ false
no_other formats [] set name h = refl
no_other formats (p ∷ ps) set name h =
    none_of (is_text name p.name) (not (set_number formats p == set)) (list_any (is_text name) (pattern_names ps))
    (has_other_set formats ps set name) h (no_other formats ps set name)
