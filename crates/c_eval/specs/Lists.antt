-- What is declared, by lists of a program.
use Rattle.std.specs.Prelude.{Bool, ◌&&◌, List, Option, option_map}
use Rattle.std.specs.List.{list_any}
use Rattle.dt_values.specs.Types.{is_text}
use Rattle.dt_values.specs.declared.ctype.Member.{Member}
use Rattle.dt_values.specs.SetsByName.{set_at}
use Rattle.dt_values.specs.declared.set.SetDef.{SetDef}
use Rattle.c_subset.specs.Programs.{Name, Pattern}

-- the arguments of the set of this name
abbrev pub members_at : List SetDef → Name → Option (List Member)
members_at sets name = option_map (λ s. s.members) (set_at sets name)

-- a pattern of this name has this set
abbrev pub is_pattern_in : List Pattern → Name → Name → Bool
is_pattern_in patterns name set = list_any (λ p. is_text name p.name && is_text set p.set) patterns
