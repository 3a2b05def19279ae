-- Formats by name. This is this project's.
use Rattle.std.specs.Prelude.{ℕ, Bool, List, Option, nat_eq, find, is_some}
use Rattle.std.specs.List.{position}
use Rattle.std.specs.Cmp.Lexicographic.{pointwise}
use Rattle.dt_model.specs.declared.format.Format.{Format}

-- the format of this name
abbrev pub format_at : List Format → List ℕ → Option Format
format_at formats name = find (λ f. pointwise nat_eq name f.name) formats

-- its place among them, from 0
abbrev pub place_of_format : List Format → List ℕ → Option ℕ
place_of_format formats name = position (λ f. pointwise nat_eq name f.name) formats

-- a format has the name
abbrev pub is_format : List Format → List ℕ → Bool
is_format formats name = is_some (format_at formats name)
