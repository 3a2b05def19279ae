-- What a model defines.
use Rattle.std.specs.Prelude.{List, map}
use Rattle.dt_values.specs.declared.set.SetDef.{SetDef}
use Rattle.dt_model.specs.declared.format.Format.{Format}
use Rattle.dt_model.specs.declared.model.Model.{Model}
use Rattle.dt_model.specs.declared.pattern.Pattern.{Pattern}
use Rattle.dt_model.specs.Patterns.{TrialPattern}
use Rattle.dt_model.specs.View.{trial_pattern}

-- what a decoder is made of: sets, formats and patterns, each in order of definition
pub record Definitions : Type 0 where
  pub sets : List SetDef
  pub formats : List Format
  pub patterns : List Pattern

-- those of a model
abbrev pub definitions_in : Model → Definitions
definitions_in model = record { sets = model.sets; formats = model.formats; patterns = model.patterns }

-- the same patterns as they are tried, with what their arguments get
abbrev pub trial_patterns : Definitions → List TrialPattern
trial_patterns d = map (trial_pattern d.sets d.formats) d.patterns
