-- What the arguments of a live set in memory hold: by their items, and by which of them aren't lost.
use Rattle.std.specs.Prelude.{ℕ, suc, Bool, true, false, List, [], ◌∷◌, ℤ, Option, Some, None, option_map, unwrap_or}
use Rattle.std.specs.Prelude.{if◌then◌else◌}
use Rattle.dt_values.specs.Stored.{stored}
use Rattle.dt_values.specs.Types.{is_text}
use Rattle.dt_values.specs.declared.ctype.Member.{Member}
use Rattle.dt_values.specs.declared.set.SetDef.{SetDef}
use Rattle.c_subset.specs.Programs.{Name, Program}
use Rattle.c_eval.specs.Runs.{Held, Live, declared_members}
use Rattle.c_eval.specs.declared.live.Live.{Live as Made}

abbrev pub unless_lost : Bool → ℤ → Option ℤ
unless_lost true z = Some z
unless_lost false z = None

-- an argument's item is the number that was assigned to it last; it holds what its type stores of it
abbrev pub held_in : List Member → List ℤ → List Bool → Held
held_in [] items held name = None
held_in (m ∷ ms) [] held name = None
held_in (m ∷ ms) (z ∷ zs) [] name = None
held_in (m ∷ ms) (z ∷ zs) (b ∷ bs) name =
    if is_text name m.name then unless_lost b (stored m.ctype z) else held_in ms zs bs name

-- the place of the first argument of this name
abbrev pub place_in : List Member → Name → Option ℕ
place_in [] name = None
place_in (m ∷ ms) name = if is_text name m.name then Some 0 else option_map suc (place_in ms name)

-- the arguments of a set; none where it isn't declared
abbrev pub arguments_of : Program → List SetDef → Name → List Member
arguments_of program outside set = unwrap_or (declared_members program outside set) []

abbrev pub live_with : Name → Held → Live
live_with set held = record { set = set; held = held }

abbrev pub live_seen : Program → List SetDef → Made → Live
live_seen program outside live =
    live_with live.set (held_in (arguments_of program outside live.set) live.items live.held)
