-- The model that is made of what lines define.
use Rattle.std.proofs.Common.{◌≡◌, ℕ, List, map, ap, ◌∙◌}
use Rattle.dt_values.specs.declared.set.SetDef.{SetDef}
use Rattle.dt_model.specs.declared.format.Format.{Format}
use Rattle.dt_model.specs.declared.pattern.Pattern.{Pattern}
use Rattle.dt_model.specs.declared.model.Model.{Model}
use Rattle.dt_model.specs.declared.options.Options.{Options}
use Rattle.dt_forms.specs.FileLines.{all_lines}
use Rattle.dt_model.specs.Models.{Definitions}
use Rattle.dt_forms.specs.Models.{IsModelOf, IsModelOfScope, definitions_in_scope}
use Rattle.dt_forms.specs.Rules.{scope_before}
use Rattle.dt_scope.specs.Scope.{Scope}
use Rattle.dt_model.specs.View.{pattern_seen}

abbrev definitions : List SetDef → List Format → List Pattern → Definitions
definitions sets formats patterns = record { sets = sets; formats = formats; patterns = patterns }

pub same_definitions : (sets others : List SetDef) (formats other_formats : List Format)
    (patterns other_patterns : List Pattern)
    → sets ≡ others → formats ≡ other_formats → patterns ≡ other_patterns
    → definitions sets formats patterns ≡ definitions others other_formats other_patterns
same_definitions sets others formats other_formats patterns other_patterns e f g = cc

pub model_of_files : (options : Options) (texts : List (List ℕ)) (model : Model) (scope : Scope) → scope ≡ scope_before options (all_lines texts) → IsModelOfScope options scope model → IsModelOf options texts model
model_of_files options texts model scope is h = record {
  width = h.width;
  variable = h.variable;
  definitions = h.definitions ∙ ap definitions_in_scope is;
  flat = ap (λ (d : Definitions). map pattern_seen d.patterns) (h.definitions ∙ ap definitions_in_scope is);
  entries = h.entries ∙ ap (λ (s : Scope). s.marks) is;
}
