use Rattle.std.proofs.Common.{[], ◌∷◌, rules}
use Rattle.std.specs.declared.alloc.Global.{Global}
use Rattle.dt_tool.specs.Evaluations.{eval_task}
use Rattle.dt_tool.specs.Stops.{AnswersTask}
use Rattle.dt_tool.specs.View.{evaluation_seen}
use Rattle.dt_tool.specs.declared.evaluate.TheConstants.{LARGEST_C_TEXT}
use Rattle.dt_tool.proofs.Contents.{made, stopped}
use Rattle.dt_tool.proofs.Evaluating.{nothing_more}
use Rattle.dt_tool.proofs.Loading.{loaded_one, stops_one}
use Rattle.dt_tool.proofs.Refusing.{handed_on}
use Rattle.dt_tool.proofs.evaluate.evaluate.Goals as goal

pub returns-in_err-text-clause-answer : goal.returns-in_err-text-clause-answer
returns-in_err-text-clause-answer g c =
    let before = g.D.Folder.seen c.args.folder.now in
    let after = g.D.Folder.seen c.load.new.folder in
    let task = eval_task (evaluation_seen c.args.request) in
    handed_on (λ r. AnswersTask task before after r) c.from_residual.result c.in_err-text.field-0.0
    c.from_residual.ensures.1
    (stopped task before after c.in_err-text.field-0.0
    (stops_one LARGEST_C_TEXT before after c.args.request.text.now c.in_err-text.field-0.0
    (rw c.as_str.ensures at c.in_err-text.ensures.stop)))

pub returns-clause-answer : goal.returns-clause-answer
returns-clause-answer g c =
    let before = g.D.Folder.seen c.args.folder.now in
    let task = eval_task (evaluation_seen c.args.request) in
    let text = c.in_ok-text.text.items in
    made task Global before (g.D.Folder.seen c.load.new.folder) (text ∷ []) c.evaluate_text.result
    (loaded_one LARGEST_C_TEXT before.files c.args.request.text.now text
    (rw c.as_str.ensures at c.in_ok-text.ensures.file) (search rules) c.in_ok-text.ensures.bytes)
    (rw c.as_slice.ensures.value at c.evaluate_text.ensures) (nothing_more c.evaluate_text.result)
