-- What the open groups and the entries stand for.
use Rattle.std.specs.Prelude.{◌-◌, List, [], ◌∷◌, ◌++◌, length, map, slice_get, Option}
use Rattle.std.specs.Option.{option_map}
use Rattle.dt_scope.specs.declared.kind.Kind.{Kind}
use Rattle.dt_scope.specs.declared.kind.Opening.{Opening}
use Rattle.dt_scope.specs.declared.groups.Open.{Open}
use Rattle.dt_scope.specs.declared.groups.Groups.{Groups}
use Rattle.dt_model.specs.Trees.{items_of}
use Rattle.dt_scope.specs.Marks.{Mark, opens, spelled}

-- the open groups, the outermost first
abbrev pub openings_of : Groups → List Opening
openings_of groups = map (λ o. o.opening) groups.open.items

-- the innermost open group, and its kind
abbrev pub innermost : List Opening → Option Opening
innermost openings = slice_get openings (length openings - 1)

abbrev pub innermost_kind : List Opening → Option Kind
innermost_kind openings = option_map (λ o. o.kind) (innermost openings)

-- the entries before an open group, and the line that opens it
abbrev pub spelled_open : Open → List Mark
spelled_open o = spelled (items_of o.before.items) ++ opens o.opening.kind o.opening.file o.opening.line ∷ []

abbrev pub spelled_groups : List Open → List Mark
spelled_groups [] = []
spelled_groups (o ∷ os) = spelled_open o ++ spelled_groups os

-- the lines that were read
abbrev pub spelled_so_far : Groups → List Mark
spelled_so_far groups = spelled_groups groups.open.items ++ spelled (items_of groups.entries.items)
