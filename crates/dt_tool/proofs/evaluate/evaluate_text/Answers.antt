use Rattle.std.specs.declared.alloc.Global.{Global}
use Rattle.c_subset.specs.View.{program_of}
use Rattle.c_subset.specs.declared.program.Program.{Program}
use Rattle.dt_tool.specs.View.{evaluation_seen}
use Rattle.dt_tool.proofs.Evaluating.{spelled_due, unread_due}
use Rattle.dt_tool.proofs.evaluate.evaluate_text.Goals as goal

pub returns-in-Ok : goal.returns-in-Ok
returns-in-Ok c =
    spelled_due (evaluation_seen c.args.request) c.args.text.now (program_of c.in-Ok.program) c.evaluate_program.result
    c.in-Ok.ensures.flat c.in-Ok.ensures.spelled c.evaluate_program.ensures

pub returns-in-Err : goal.returns-in-Err
returns-in-Err c =
    unread_due Global Program (evaluation_seen c.args.request) c.args.text.now c.in-Err.fault c.stop_of_text.result
    c.in-Err.ensures.too_deep c.in-Err.ensures.not_subset c.in-Err.ensures.none c.stop_of_text.ensures
