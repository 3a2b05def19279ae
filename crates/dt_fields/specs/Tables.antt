-- Tables by name, in the order of definition. They are this project's.
use Rattle.std.specs.Prelude.{ℕ, Bool, List, Option, nat_eq, is_some}
use Rattle.std.specs.Map.{lookup}
use Rattle.std.specs.Cmp.Lexicographic.{pointwise}
use Rattle.dt_fields.specs.declared.field.FieldDef.{FieldDef}

-- what a table has under a name
abbrev pub entry_at : {X : Type 0} → List (List ℕ × X) → List ℕ → Option X
entry_at entries name = lookup (pointwise nat_eq name) entries

abbrev pub is_held : {X : Type 0} → List (List ℕ × X) → List ℕ → Bool
is_held entries name = is_some (entry_at entries name)

-- fields by name
abbrev pub FieldTable : Type 0
FieldTable = List (List ℕ × FieldDef)
