use Rattle.std.proofs.Common.{◌≤◌, length, subst, sym}
use Rattle.std.proofs.lemmas.List.{length-map}
use Rattle.dt_forms.specs.Models.{IsModelOf}
use Rattle.dt_forms.specs.View.{texts_of}
use Rattle.dt_forms.proofs.ModelParts.{model_of_files}
use Rattle.dt_forms.proofs.ReadSources.{sources_short}
use Rattle.dt_forms.proofs.Soundness.{sound_model}
use Rattle.dt_model.specs.declared.limits.TheConstants.{MOST_FILES}
use Rattle.dt_forms.specs.declared.source.Source.{Source}
use Rattle.dt_forms.proofs.reader.read_model.Goals as goal

pub returns-in-Ok-clause-model : goal.returns-in-Ok-clause-model
returns-in-Ok-clause-model c =
    model_of_files c.args.options.now (texts_of c.args.files.now) c.in-Ok.model c.in_ok-scope.scope
    c.in_ok-scope.ensures.scope c.in-Ok.ensures

pub returns-in-Ok-clause-sound : goal.returns-in-Ok-clause-sound
returns-in-Ok-clause-sound c =
    let model : IsModelOf c.args.options.now (texts_of c.args.files.now) c.in-Ok.model =
    model_of_files c.args.options.now (texts_of c.args.files.now) c.in-Ok.model c.in_ok-scope.scope
    c.in_ok-scope.ensures.scope c.in-Ok.ensures in
    let few : length (texts_of c.args.files.now) ≤ MOST_FILES =
    subst (λ n. n ≤ MOST_FILES) (sym (length-map c.args.files.now (λ (s : Source). s.bytes))) c.requires.few in
    sound_model c.args.options.now (texts_of c.args.files.now) c.in-Ok.model c.requires.options.decode few
    (sources_short c.args.files.now c.requires.sources) c.in_ok-scope.ensures.kept model
