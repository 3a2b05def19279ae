-- The rules of a line's arguments, as scripts/decodetree.py checks them.
use Rattle.std.specs.Prelude.{ℕ, ◌||◌, List, [], ◌∷◌, ◌++◌, Option, Some, None, if◌then◌else◌}
use Rattle.dt_values.specs.declared.ctype.Member.{Member}
use Rattle.dt_fields.specs.declared.rule.Rule.TheVariants as rule
use Rattle.dt_values.specs.declared.set.SetDef.{SetDef}
use Rattle.dt_fields.specs.Faults.{Broken, named}
use Rattle.dt_values.specs.Members.{has_member}
use Rattle.dt_scope.specs.ElementRows.{has_value}
use Rattle.dt_model.specs.Patterns.{GivenValues}

abbrev pub where_named : Option (List ℕ) → (List ℕ → Broken) → List Broken
where_named None b = []
where_named (Some name) b = b name ∷ []

-- the first argument of a line that isn't among a set's
abbrev pub outside_argument : GivenValues → List Member → Option (List ℕ)
outside_argument [] members = None
outside_argument (v ∷ vs) members = if has_member members v.0 then outside_argument vs members else Some v.0

-- the first argument of a line that its format sets too
abbrev pub shared_argument : GivenValues → GivenValues → Option (List ℕ)
shared_argument base [] = None
shared_argument base (v ∷ vs) = if has_value base v.0 then Some v.0 else shared_argument base vs

-- the first argument of a set that neither the format nor the line sets
abbrev pub missing_argument : GivenValues → GivenValues → List Member → Option (List ℕ)
missing_argument base values [] = None
missing_argument base values (m ∷ ms) =
    if has_value base m.name || has_value values m.name then missing_argument base values ms else Some m.name

abbrev pub outside_rows : GivenValues → List Member → List Broken
outside_rows values members = where_named (outside_argument values members) (λ name. (rule.G11, named name))

abbrev pub shared_rows : GivenValues → GivenValues → List Broken
shared_rows base values = where_named (shared_argument base values) (λ name. (rule.G16, named name))

abbrev pub missing_rows : GivenValues → GivenValues → List Member → List Broken
missing_rows base values members = where_named (missing_argument base values members) (λ name. (rule.G17, named name))

-- those of a format's line; a new set has just the arguments of the line
abbrev pub format_argument_rows : GivenValues → Option SetDef → List Broken
format_argument_rows values None = []
format_argument_rows values (Some set) = outside_rows values set.members

-- those of a pattern's line, whose format sets these; a new set has just the arguments of the line
abbrev pub argument_rows : GivenValues → GivenValues → Option SetDef → List Broken
argument_rows base values None = []
argument_rows base values (Some set) =
    outside_rows values set.members ++ (shared_rows base values ++ missing_rows base values set.members)
