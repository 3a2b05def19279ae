use Rattle.std.proofs.Common.{◌∙◌, ap}
use Rattle.c_writer.specs.Layout.{layout}
use Rattle.c_writer.specs.Parts.{parts_of}
use Rattle.dt_forms.specs.Models.{IsModelOf}
use Rattle.dt_tool.specs.Due.{IsDueOfFiles}
use Rattle.dt_tool.specs.Stops.{MakesDue}
use Rattle.dt_tool.specs.View.{contents}
use Rattle.dt_tool.proofs.Refusing.{entries_due, files_due, handed_on, kept_due, lines_due, unbroken}
use Rattle.dt_tool.proofs.generate.text_of_files.Goals as goal

pub returns-in_err-sources-clause-due : goal.returns-in_err-sources-clause-due
returns-in_err-sources-clause-due c =
    let texts = contents c.args.files.items in
    handed_on (λ r. MakesDue r (IsDueOfFiles c.args.options.now c.args.names.now texts)) c.from_residual.result
    c.in_err-sources.field-0.0 c.from_residual.ensures.1
    (files_due c.args.options.now c.args.names.now texts c.in_err-sources.field-0.0 c.in_err-sources.ensures.stop)

pub returns-in_err-model-clause-due : goal.returns-in_err-model-clause-due
returns-in_err-model-clause-due c =
    let texts = contents c.args.files.items in
    handed_on (λ r. MakesDue r (IsDueOfFiles c.args.options.now c.args.names.now texts))
    c.from_residual-in_err-model.result c.in_err-model.field-0.0 c.from_residual-in_err-model.ensures.1
    (lines_due c.args.options.now c.args.names.now texts c.in_err-model.field-0.0 c.in_ok-sources.ensures.kept
    (rw (c.as_slice.ensures.value, c.in_ok-sources.ensures.texts) at c.in_err-model.ensures.stop))

pub returns-in_err-refuse_entries-clause-due : goal.returns-in_err-refuse_entries-clause-due
returns-in_err-refuse_entries-clause-due c =
    let texts = contents c.args.files.items in
    handed_on (λ r. MakesDue r (IsDueOfFiles c.args.options.now c.args.names.now texts))
    c.from_residual-in_err-refuse_entries.result c.in_err-refuse_entries.field-0.0
    c.from_residual-in_err-refuse_entries.ensures.1
    (entries_due c.args.options.now c.args.names.now texts _ c.in_err-refuse_entries.field-0.0
    (unbroken c.args.options.now c.args.names.now texts c.in_ok-sources.ensures.kept
    (rw (c.as_slice.ensures.value, c.in_ok-sources.ensures.texts) at c.in_ok-model.ensures.kept))
    (rw (c.as_slice.ensures.value, c.in_ok-sources.ensures.texts) at c.in_ok-model.ensures.model)
    (rw (c.as_slice.ensures.value, c.in_ok-sources.ensures.texts) at c.in_err-refuse_entries.ensures.stop))

pub returns-in-Ok-clause-due : goal.returns-in-Ok-clause-due
returns-in-Ok-clause-due c =
    let texts = contents c.args.files.items in
    let is : IsModelOf c.args.options.now texts c.in_ok-model.model =
    rw (c.as_slice.ensures.value, c.in_ok-sources.ensures.texts) at c.in_ok-model.ensures.model in
    kept_due c.args.options.now c.args.names.now texts c.in-Ok.text.items c.in_ok-model.model
    (unbroken c.args.options.now c.args.names.now texts c.in_ok-sources.ensures.kept
    (rw (c.as_slice.ensures.value, c.in_ok-sources.ensures.texts) at c.in_ok-model.ensures.kept))
    is c.in_ok-refuse_entries.ensures.kept
    (c.in-Ok.ensures.layout ∙ ap (λ d. layout (parts_of c.args.options.now d)) is.definitions)
