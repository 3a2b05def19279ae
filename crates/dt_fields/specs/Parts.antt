-- Texts with a byte between two parts, as tokens of lines are (docs/devel/decodetree.rst, "Fields" and "Argument Sets").
use Rattle.std.specs.Prelude.{ℕ, ◌+◌, ◌==◌, List, Option, Some, None, take, drop}
use Rattle.std.specs.Borrow.{Bor}
use Rattle.std.specs.List.{position}
use Rattle.std.specs.Option.{option_map}

-- what stands before and behind the first such byte of a text
abbrev pub parts_at_byte : ℕ → List ℕ → Option (List ℕ × List ℕ)
parts_at_byte mark text = option_map (λ i. (take i text, drop (i + 1) text)) (position (λ b. b == mark) text)

-- parts that are borrowed
abbrev pub parts_seen : Option (Bor (List ℕ) × Bor (List ℕ)) → Option (List ℕ × List ℕ)
parts_seen None = None
parts_seen (Some parts) = Some (parts.0.now, parts.1.now)
