use Rattle.std.specs.declared.alloc.Global.{Global}
use Rattle.dt_tool.specs.Due.{gen_task}
use Rattle.dt_tool.specs.Stops.{AnswersTask}
use Rattle.dt_tool.specs.View.{asked_seen, contents}
use Rattle.dt_tool.proofs.Contents.{made, stopped}
use Rattle.dt_tool.proofs.Refusing.{handed_on}
use Rattle.dt_tool.proofs.generate.generate.Goals as goal

pub returns-in_err-files-clause-answer : goal.returns-in_err-files-clause-answer
returns-in_err-files-clause-answer g c =
    let before = g.D.Folder.seen c.args.folder.now in
    let after = g.D.Folder.seen c.load_all.new.folder in
    handed_on (λ r. AnswersTask (gen_task (asked_seen c.args.request)) before after r) c.from_residual.result
    c.in_err-files.field-0.0 c.from_residual.ensures.1
    (stopped (gen_task (asked_seen c.args.request)) before after c.in_err-files.field-0.0 c.in_err-files.ensures.stop)

pub returns-clause-answer : goal.returns-clause-answer
returns-clause-answer g c =
    made (gen_task (asked_seen c.args.request)) Global (g.D.Folder.seen c.args.folder.now)
    (g.D.Folder.seen c.load_all.new.folder) (contents c.in_ok-files.files.items) c.text_of_files.result
    c.in_ok-files.ensures.loaded c.text_of_files.ensures.due c.text_of_files.ensures.decoder
