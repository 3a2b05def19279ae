use Rattle.dt_tool.proofs.Refusing.{file_refused, file_within}
use Rattle.dt_tool.proofs.inputs.source_of.Goals as goal

pub stop_of-requires : goal.stop_of-requires
stop_of-requires c = file_within c.args.place c.args.bytes.items c.in-Err.fault c.in-Err.ensures.broken

pub returns-in-Err-clause-stop : goal.returns-in-Err-clause-stop
returns-in-Err-clause-stop c =
    file_refused c.args.width c.args.names.now c.args.place c.args.bytes.items c.in-Err.fault c.stop_of.result
    c.in-Err.ensures.broken c.stop_of.ensures
