-- What the first token of a line says of it (docs/devel/decodetree.rst): it opens or closes a group, or defines a field,
-- a set, a format or a pattern.
use Rattle.std.specs.Prelude.{ℕ, ◌==◌, List, [], ◌∷◌, codes, if◌then◌else◌}
use Rattle.dt_values.specs.Names.{is_name}
use Rattle.dt_values.specs.Types.{is_text}
use Rattle.dt_scope.specs.declared.kind.Kind.{Kind}
use Rattle.dt_scope.specs.declared.kind.Kind.TheVariants.{Brace, Bracket}
use Rattle.dt_forms.specs.declared.head.Head.{Head}
use Rattle.dt_forms.specs.declared.head.Head.TheVariants as head

-- a name behind `%`, `&` or `@` is a field's, a set's or a format's
abbrev pub marked_head : ℕ → List ℕ → Head
marked_head mark name =
    if is_name name then
    if mark == 37 then head.Field name
    else if mark == 38 then head.Set name
    else if mark == 64 then head.Format name
    else head.None
    else head.None

-- a name alone is a pattern's
abbrev pub named_head : List ℕ → Head
named_head [] = head.None
named_head (b ∷ bs) = if is_name (b ∷ bs) then head.Pattern (b ∷ bs) else marked_head b bs

-- a brace or a bracket alone opens or closes a group
abbrev pub head_of : List ℕ → Head
head_of text =
    if is_text text (codes "{") then head.Opens Brace
    else if is_text text (codes "}") then head.Closes Brace
    else if is_text text (codes "[") then head.Opens Bracket
    else if is_text text (codes "]") then head.Closes Bracket
    else named_head text

-- what opens a group of this kind
abbrev pub opening_text : Kind → List ℕ
opening_text Brace = codes "{"
opening_text Bracket = codes "["
