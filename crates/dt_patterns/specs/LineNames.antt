-- The rules of the names that a line brings, mostly as scripts/decodetree.py checks them. G26 and G28 are this project's.
use Rattle.std.specs.Prelude.{ℕ, ◌==◌, ◌&&◌, Bool, false, not, is_some, List, [], ◌++◌, slice_get, Option, Some, None}
use Rattle.std.specs.List.{list_any}
use Rattle.dt_values.specs.Types.{is_text}
use Rattle.dt_fields.specs.declared.rule.Rule.TheVariants as rule
use Rattle.dt_values.specs.declared.set.SetDef.{SetDef}
use Rattle.dt_fields.specs.Faults.{Broken, where_broken, named}
use Rattle.dt_fields.specs.SetLines.{is_taken}
use Rattle.dt_values.specs.SetsByName.{set_at}
use Rattle.dt_model.specs.declared.format.Format.{Format}
use Rattle.dt_model.specs.declared.pattern.Pattern.{Pattern}
use Rattle.dt_patterns.specs.declared.infer.Choice.{Choice}
use Rattle.dt_scope.specs.FormatsByName.{is_format}
use Rattle.dt_scope.specs.Scope.{Scope, pattern_names}
use Rattle.dt_model.specs.View.{set_number}

-- a set or an earlier pattern has the name
abbrev pub is_set_name_taken : Scope → List ℕ → Bool
is_set_name_taken scope name = is_taken scope.sets (pattern_names scope.patterns) name

-- a new name that is taken
abbrev pub new_name_row : (List ℕ → Bool) → Option (List ℕ) → List Broken
new_name_row is_taken None = []
new_name_row is_taken (Some name) = where_broken (is_taken name) (rule.G28, named name)

abbrev pub has_set_name : Option SetDef → List ℕ → Bool
has_set_name None name = false
has_set_name (Some s) name = is_text name s.name

-- a set has the name, and it isn't the one of this number
abbrev pub names_other_set : List SetDef → ℕ → List ℕ → Bool
names_other_set sets set name = is_some (set_at sets name) && not (has_set_name (slice_get sets set) name)

-- an earlier pattern of the name has a set of another number
abbrev pub has_other_set : List Format → List Pattern → ℕ → List ℕ → Bool
has_other_set formats patterns set name =
    list_any (λ p. not (set_number formats p == set) && is_text name p.name) patterns

-- those of the names that are new
abbrev pub new_name_rows : Scope → Choice → List Broken
new_name_rows scope choice =
    new_name_row (is_set_name_taken scope) choice.new_set
    ++ new_name_row (is_format scope.formats) choice.new_format

-- those of a pattern's own name
abbrev pub own_name_rows : Scope → ℕ → List ℕ → List Broken
own_name_rows scope set name =
    where_broken (names_other_set scope.sets set name) (rule.G26, named name)
    ++ where_broken (has_other_set scope.formats scope.patterns set name) (rule.G27, named name)

abbrev pub name_rows : Scope → Choice → List ℕ → List Broken
name_rows scope choice name = new_name_rows scope choice ++ own_name_rows scope choice.set name
