use Rattle.std.proofs.Common.{refl}
use Rattle.dt_tool.specs.Evaluations.{eval_task}
use Rattle.dt_tool.specs.View.{evaluation_seen}
use Rattle.dt_tool.proofs.OneDue.{eval_once}
use Rattle.dt_tool.proofs.Right.{right_stop, right_text}
use Rattle.dt_tool.proofs.run.run_eval.Goals as goal

pub returns-in-Ok-clause-right : goal.returns-in-Ok-clause-right
returns-in-Ok-clause-right g c =
    let e = evaluation_seen c.args.request in
    right_text (eval_task e) (eval_once e) _
    (g.D.Folder.seen c.evaluate.new.folder) c.in-Ok.ensures.only c.in-Ok.text.items c.in-Ok.ensures.answer
    (rw c.as_slice.ensures.value at c.deliver.ensures.delivers)

pub returns-in-Err-clause-right : goal.returns-in-Err-clause-right
returns-in-Err-clause-right g c =
    let e = evaluation_seen c.args.request in
    right_stop (eval_task e) (eval_once e) _ c.in-Err.ensures.only refl c.in-Err.stop c.in-Err.ensures.answer
    c.report_stop.ensures.outcome c.report_stop.ensures.said
