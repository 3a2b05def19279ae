-- The rules of structure: groups, indentation, first tokens (docs/devel/decodetree.rst, "Pattern Groups";
-- scripts/decodetree.py, `parse_file`). Their order is this project's, and so are L8 and L9.
use Rattle.std.specs.Prelude.{ℕ, ◌==◌, ◌-◌, ◌*◌, nat_le, Bool, true, false, not}
use Rattle.std.specs.Prelude.{List, [], ◌∷◌, ◌++◌, length, Option, Some, None}
use Rattle.dt_fields.specs.declared.rule.Rule.{Rule}
use Rattle.dt_fields.specs.declared.rule.Rule.TheVariants as rule
use Rattle.dt_fields.specs.Faults.{Broken, where_broken, token, number}
use Rattle.dt_scope.specs.declared.kind.Kind.{Kind}
use Rattle.dt_scope.specs.declared.kind.Kind.TheVariants.{Brace, Bracket}
use Rattle.dt_scope.specs.Groups.{innermost_kind}
use Rattle.dt_scope.specs.Scope.{Scope}
use Rattle.dt_forms.specs.declared.head.Head.{Head}
use Rattle.dt_forms.specs.declared.head.Head.TheVariants as head
use Rattle.dt_model.specs.declared.limits.TheConstants.{MOST_DEPTH, MOST_PATTERNS}

-- a token follows the first one: the line breaks this rule there
abbrev pub extra_rows : Rule → List (List ℕ) → List Broken
extra_rows broken [] = []
extra_rows broken (second ∷ more) = (broken, token second) ∷ []

-- the group is in braces
abbrev pub is_brace : Option Kind → Bool
is_brace None = false
is_brace (Some Brace) = true
is_brace (Some Bracket) = false

-- L3: a brace closes where the innermost open group isn't in braces, or a bracket where it is
abbrev pub is_mismatched : Kind → Option Kind → Bool
is_mismatched Brace innermost = not (is_brace innermost)
is_mismatched Bracket innermost = is_brace innermost

-- L4: a bracket closes where no group is open
abbrev pub is_unopened : Kind → Option Kind → Bool
is_unopened Brace innermost = false
is_unopened Bracket None = true
is_unopened Bracket (Some kind) = false

-- L2, L3 and L4, of a line that closes a group
abbrev pub closing_rows : Option Kind → List ℕ → List (List ℕ) → Kind → List Broken
closing_rows innermost first rest kind =
    extra_rows rule.L2 rest
    ++ (where_broken (is_mismatched kind innermost) (rule.L3, token first)
    ++ where_broken (is_unopened kind innermost) (rule.L4, token first))

-- L1: the indentation isn't two for each of so many groups
abbrev pub indentation_row : ℕ → ℕ → List Broken
indentation_row depth indent = where_broken (not (indent == 2 * depth)) (rule.L1, number indent)

-- L5 and L8, of a line that opens a group inside so many
abbrev pub opening_rows : ℕ → List ℕ → List (List ℕ) → List Broken
opening_rows depth first rest =
    extra_rows rule.L5 rest ++ where_broken (nat_le MOST_DEPTH depth) (rule.L8, token first)

-- L9: as many patterns as there may be came before
abbrev pub pattern_row : ℕ → List ℕ → List Broken
pattern_row patterns first = where_broken (nat_le MOST_PATTERNS patterns) (rule.L9, token first)

-- the rules of structure, in their order; a closing line counts its own group as closed
abbrev pub structure_rows : Scope → ℕ → List ℕ → List (List ℕ) → Head → List Broken
structure_rows scope indent first rest (head.Opens kind) =
    indentation_row (length scope.groups) indent ++ opening_rows (length scope.groups) first rest
structure_rows scope indent first rest (head.Closes kind) =
    closing_rows (innermost_kind scope.groups) first rest kind ++ indentation_row (length scope.groups - 1) indent
structure_rows scope indent first rest (head.Field name) = indentation_row (length scope.groups) indent
structure_rows scope indent first rest (head.Set name) = indentation_row (length scope.groups) indent
structure_rows scope indent first rest (head.Format name) = indentation_row (length scope.groups) indent
structure_rows scope indent first rest (head.Pattern name) =
    indentation_row (length scope.groups) indent ++ pattern_row (length scope.patterns) first
structure_rows scope indent first rest head.None =
    indentation_row (length scope.groups) indent ++ (rule.L7, token first) ∷ []
