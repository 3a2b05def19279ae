-- What lines of pattern files define (docs/devel/decodetree.rst): each list in order of definition, with what is inferred;
-- the groups that are open, the innermost last; and the lines that open and close groups or are patterns.
use Rattle.std.specs.Prelude.{ℕ, List, [], map}
use Rattle.dt_values.specs.declared.set.SetDef.{SetDef}
use Rattle.dt_fields.specs.Tables.{FieldTable}
use Rattle.dt_model.specs.declared.format.Format.{Format}
use Rattle.dt_model.specs.declared.pattern.Pattern.{Pattern}
use Rattle.dt_scope.specs.declared.kind.Opening.{Opening}
use Rattle.dt_scope.specs.Marks.{Mark}

pub record Scope : Type 0 where
  pub fields : FieldTable
  pub sets : List SetDef
  pub formats : List Format
  pub patterns : List Pattern
  pub groups : List Opening
  pub marks : List Mark

abbrev pub nothing_defined : Scope
nothing_defined = record { fields = []; sets = []; formats = []; patterns = []; groups = []; marks = [] }

abbrev pub pattern_names : List Pattern → List (List ℕ)
pattern_names patterns = map (λ p. p.name) patterns
