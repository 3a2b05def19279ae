-- What holds of the lines whichever way a line goes: it is blank, it ends, or it goes on.
use Rattle.std.specs.Prelude.{Bool, true, false, List, [], ◌∷◌, if◌then◌else◌}
use Rattle.dt_lines.specs.Lines.{Piece, PlacedLine, if_tokens}

pub end_or_go_on_holds : (P : List PlacedLine → Type 0) (test : Bool) (kept : List Piece) (some none ended : List PlacedLine) → P some → P none → P ended → P (if test then if_tokens kept some none else ended)
end_or_go_on_holds P true [] some none ended h k l = k
end_or_go_on_holds P true (token ∷ more) some none ended h k l = h
end_or_go_on_holds P false kept some none ended h k l = l

pub blank_or_holds : (P : List PlacedLine → Type 0) (test : Bool) (skipped line : List PlacedLine) → P skipped → P line → P (if test then skipped else line)
blank_or_holds P true skipped line h k = h
blank_or_holds P false skipped line h k = k
