-- Texts that decode what files say (docs/LANGUAGE.md).
use Rattle.std.specs.Prelude.{ℕ, List}
use Rattle.dt_forms.specs.Models.{definitions_of, trial_list}
use Rattle.dt_model.specs.declared.options.Options.{Options}
use Rattle.c_writer.specs.Decoders.{IsDecoder}
use Rattle.c_writer.specs.Uses.{outside_sets}

-- a decoder of the patterns of these files, beside the sets that they leave to be declared elsewhere
abbrev pub IsDecoderOf : Options → List (List ℕ) → List ℕ → Type 0
IsDecoderOf options texts text =
    IsDecoder options.width text (outside_sets (definitions_of options texts).sets) (trial_list options texts)
