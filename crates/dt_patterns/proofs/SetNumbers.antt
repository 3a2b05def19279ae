-- The number of the set of a format.
use Rattle.std.proofs.Common.{◌≡◌, ℕ, List, map, Some, None, ap, sym, ◌∙◌}
use Rattle.std.specs.Prelude.{slice_get, unwrap_or}
use Rattle.std.specs.Option.{option_map}
use Rattle.std.proofs.lemmas.Option.{slice_get-map, unwrap_or-slice_get}
use Rattle.dt_model.specs.declared.format.Format.{Format}
use Rattle.dt_model.specs.View.{set_of_format}

set_by : (formats : List Format) (n : ℕ)
    → set_of_format formats n ≡ unwrap_or (option_map (λ f. f.set) (slice_get formats n)) 0
set_by formats n =
    sym (unwrap_or-slice_get (map (λ (f : Format). f.set) formats) n 0)
    ∙ ap (λ o. unwrap_or o 0) (slice_get-map (λ (f : Format). f.set) formats n)

pub set_of_none : (formats : List Format) (n : ℕ) → slice_get formats n ≡ None → set_of_format formats n ≡ 0
set_of_none formats n h = set_by formats n ∙ ap (λ o. unwrap_or (option_map (λ (f : Format). f.set) o) 0) h

pub set_of_some : (formats : List Format) (n : ℕ) (f : Format) → slice_get formats n ≡ Some f
    → set_of_format formats n ≡ f.set
set_of_some formats n f h = set_by formats n ∙ ap (λ o. unwrap_or (option_map (λ (f : Format). f.set) o) 0) h
