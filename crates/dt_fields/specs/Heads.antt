-- How the lines of definitions begin (docs/devel/decodetree.rst, "Fields" and "Argument Sets").
use Rattle.std.specs.Prelude.{ℕ, ◌==◌, ◌&&◌, Bool, false, List, [], ◌∷◌}
use Rattle.dt_values.specs.Names.{is_name}

-- a mark, and a name behind it
abbrev pub is_marked : ℕ → List ℕ → Bool
is_marked mark [] = false
is_marked mark (b ∷ bs) = (b == mark) && is_name bs

-- the first of these tokens is the mark and a name
abbrev pub begins : ℕ → List (List ℕ) → Bool
begins mark [] = false
begins mark (t ∷ ts) = is_marked mark t
