use Rattle.std.proofs.Common.{rules}
use Rattle.std.specs.Prelude.{IfErr}
use Rattle.dt_tool.specs.Stops.{StopsLoading}
use Rattle.dt_tool.proofs.Loading.{loaded_pushed, stops_at}
use Rattle.dt_tool.proofs.Refusing.{handed_on}
use Rattle.dt_tool.proofs.inputs.load_all.Goals as goal

pub returns-in_err-bytes-clause-stop : goal.returns-in_err-bytes-clause-stop
returns-in_err-bytes-clause-stop g c =
    let seen = g.D.Folder.seen in
    handed_on (λ r. IfErr r (StopsLoading c.args.limit (seen c.args.folder.now) (seen c.load.new.folder) c.args.names.now))
    c.from_residual.result c.in_err-bytes.field-0.0 c.from_residual.ensures.1
    (stops_at c.args.limit (seen c.args.folder.now) (seen c.loop-name.folder)
    (seen c.load.new.folder) c.args.names.now c.loop-name.name-index c.name-item.result _ c.in_err-bytes.field-0.0
    c.loop-name-test.true c.name-item.is
    c.loop-name.invariant.loaded c.loop-name.invariant.only (rw c.as_str.ensures at c.in_err-bytes.ensures.stop))

pub loop-name-preserved : goal.loop-name-preserved
loop-name-preserved g c = record {
  loaded = loaded_pushed c.args.limit (g.D.Folder.seen c.loop-name.folder).files
      (g.D.Folder.seen c.args.folder.now).files c.args.names.now c.loop-name.name-index c.name-item.result
      c.loop-name.files.items c.push.new.self.items c.in_ok-bytes.bytes
      c.in-Ok.ensures.items c.loop-name.invariant.only.files c.loop-name-test.true c.name-item.is
      c.loop-name.invariant.loaded (rw c.as_str.ensures at c.in_ok-bytes.ensures.file)
      (search rules) c.in_ok-bytes.ensures.bytes;
  only = search rules;
}
