-- The model that pattern files stand for.
use Rattle.std.specs.Prelude.{◌≡◌, ℕ, List, map}
use Rattle.dt_model.specs.declared.options.Options.{Options}
use Rattle.dt_model.specs.declared.model.Model.{Model}
use Rattle.dt_forms.specs.FileLines.{all_lines}
use Rattle.dt_model.specs.Patterns.{FlatPattern, TrialPattern}
use Rattle.dt_forms.specs.Rules.{scope_before}
use Rattle.dt_scope.specs.Scope.{Scope}
use Rattle.dt_scope.specs.Marks.{Mark, entries_of, spelled}
use Rattle.dt_model.specs.Trees.{Items, items_of}
use Rattle.dt_model.specs.View.{pattern_seen}
use Rattle.dt_model.specs.Models.{Definitions, definitions_in, trial_patterns}

abbrev pub definitions_in_scope : Scope → Definitions
definitions_in_scope scope = record { sets = scope.sets; formats = scope.formats; patterns = scope.patterns }

-- those of files: all that their lines define
abbrev pub definitions_of : Options → List (List ℕ) → Definitions
definitions_of options texts = definitions_in_scope (scope_before options (all_lines texts))

-- the patterns of files, where no line is broken
abbrev pub flat_list : Options → List (List ℕ) → List FlatPattern
flat_list options texts = map pattern_seen (definitions_of options texts).patterns

abbrev pub trial_list : Options → List (List ℕ) → List TrialPattern
trial_list options texts = trial_patterns (definitions_of options texts)

-- the lines of files that open and close groups or are patterns, where no line is broken, and the entries that they are
abbrev pub marks_in_files : Options → List (List ℕ) → List Mark
marks_in_files options texts = (scope_before options (all_lines texts)).marks

abbrev pub entries_in_files : Options → List (List ℕ) → Items
entries_in_files options texts = entries_of (marks_in_files options texts)

-- a model of what lines define
pub record IsModelOfScope (options : Options) (scope : Scope) (model : Model) : Type 0 where
  pub width : model.width ≡ options.width
  pub variable : model.variable ≡ options.variable
  pub definitions : definitions_in model ≡ definitions_in_scope scope
  pub entries : spelled (items_of model.entries) ≡ scope.marks

-- a model of these files: its patterns are the flat list, in order, and its entries are spelled as the lines are
pub record IsModelOf (options : Options) (texts : List (List ℕ)) (model : Model) : Type 0 where
  pub width : model.width ≡ options.width
  pub variable : model.variable ≡ options.variable
  pub definitions : definitions_in model ≡ definitions_of options texts
  pub flat : map pattern_seen model.patterns ≡ flat_list options texts
  pub entries : spelled (items_of model.entries) ≡ marks_in_files options texts
