-- The text of a sound model decodes its patterns.
use Rattle.std.proofs.Common.{◌≡◌, ℕ, List, refl, subst, sym}
use Rattle.dt_model.specs.declared.options.Options.{Options}
use Rattle.dt_model.specs.Options.{IsOptions}
use Rattle.dt_model.specs.Patterns.{TrialPattern}
use Rattle.dt_model.specs.declared.model.Model.{Model}
use Rattle.dt_model.specs.Models.{definitions_in, trial_patterns}
use Rattle.dt_model.specs.Sound.{IsSound}
use Rattle.dt_host.specs.Hosts.{script}
use Rattle.c_writer.specs.Chain.{chain_program}
use Rattle.c_writer.specs.Decoders.{IsDecoder}
use Rattle.c_writer.specs.Layout.{layout}
use Rattle.c_writer.specs.Parts.{Parts, parts_of, patterns_in}
use Rattle.c_writer.specs.Sound.{AreSound}
use Rattle.c_writer.specs.Uses.{outside_sets}
use Rattle.c_writer.proofs.CallSites.{one_call_site}
use Rattle.c_writer.proofs.Chains.{program_agrees}
use Rattle.c_writer.proofs.Lines.{layout_spells}
use Rattle.c_writer.proofs.Models.{sound_parts, trials_of_parts}
use Rattle.c_writer.proofs.TextRuns.{spelled_program}

layout_decodes : (p : Parts) → AreSound p → IsDecoder p.width (layout p) (outside_sets p.sets) (patterns_in p)
layout_decodes p s = record {
  program = chain_program p;
  spells = layout_spells p s;
  only = λ other spells. spelled_program p other s spells;
  sites = one_call_site p (chain_program p) s (layout_spells p s);
  width_of_words = refl;
  decodes = λ word outcomes answers small. program_agrees (script outcomes answers) p word 0 small s;
}

-- the text of a sound model decodes its patterns
pub text_decodes : (options : Options) (model : Model) (text : List ℕ) → IsOptions options
    → model.width ≡ options.width → IsSound model
    → text ≡ layout (parts_of options (definitions_in model))
    → IsDecoder options.width text (outside_sets model.sets) (trial_patterns (definitions_in model))
text_decodes options model text asked width s is =
    subst (λ t. IsDecoder options.width t (outside_sets model.sets) (trial_patterns (definitions_in model))) (sym is)
    (subst (λ (ps : List TrialPattern). IsDecoder options.width (layout (parts_of options (definitions_in model)))
    (outside_sets model.sets) ps) (trials_of_parts model.sets model.formats model.patterns)
    (layout_decodes (parts_of options (definitions_in model)) (sound_parts options model asked width s)))
