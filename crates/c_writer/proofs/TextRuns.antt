-- The program that a model's text spells, and its run.
use Rattle.std.proofs.Common.{◌≡◌, ℕ, ◌<◌, ◌^◌, List, sym, subst}
use Rattle.dt_values.specs.Widths.{width_bits}
use Rattle.dt_model.specs.declared.options.Options.{Options}
use Rattle.dt_model.specs.Options.{IsOptions}
use Rattle.dt_model.specs.Patterns.{TrialPattern}
use Rattle.dt_model.specs.declared.model.Model.{Model}
use Rattle.dt_model.specs.Models.{definitions_in, trial_patterns}
use Rattle.dt_model.specs.Sound.{IsSound}
use Rattle.c_subset.specs.Programs.{Program}
use Rattle.c_subset.specs.Spells.{Spells}
use Rattle.c_subset.proofs.ProgramsRead.{spelled_once}
use Rattle.dt_host.specs.Hosts.{Host}
use Rattle.dt_match.specs.Trial.{trial_of}
use Rattle.c_eval.specs.Runs.{run_of}
use Rattle.c_writer.specs.Agrees.{AgreesWith}
use Rattle.c_writer.specs.Chain.{chain_program}
use Rattle.c_writer.specs.Layout.{layout}
use Rattle.c_writer.specs.Parts.{Parts, parts_of}
use Rattle.c_writer.specs.Sound.{AreSound}
use Rattle.c_writer.specs.Uses.{outside_sets}
use Rattle.c_writer.proofs.Chains.{program_agrees}
use Rattle.c_writer.proofs.Lines.{layout_spells}
use Rattle.c_writer.proofs.Models.{sound_parts, trials_of_parts}

-- it is the one that tries the patterns
pub spelled_program : (p : Parts) (program : Program) → AreSound p → Spells (layout p) program
    → program ≡ chain_program p
spelled_program p program sound spells =
    spelled_once (layout p) program (chain_program p) spells
    (layout_spells p sound)

pub run_of_text : {S : Type 0} (host : Host S) (options : Options) (model : Model) (program : Program) (word : ℕ)
    (state : S)
    → IsOptions options → model.width ≡ options.width → IsSound model
    → Spells (layout (parts_of options (definitions_in model))) program → word < 2 ^ width_bits options.width
    → AgreesWith (trial_of host (trial_patterns (definitions_in model)) word state)
    (run_of program (outside_sets model.sets) host word state)
run_of_text host options model program word state asked width s spells below =
    let p : Parts = parts_of options (definitions_in model) in
    let sound : AreSound p = sound_parts options model asked width s in
    subst (λ (r : Program). AgreesWith (trial_of host (trial_patterns (definitions_in model)) word state)
    (run_of r (outside_sets model.sets) host word state)) (sym (spelled_program p program sound spells))
    (subst (λ (ps : List TrialPattern). AgreesWith (trial_of host ps word state)
    (run_of (chain_program p) (outside_sets model.sets) host word state))
    (trials_of_parts model.sets model.formats model.patterns)
    (program_agrees host p word state below sound))
