use Rattle.std.proofs.Common.{◌≡◌, length, rules}
use Rattle.dt_tool.specs.View.{contents}
use Rattle.dt_tool.proofs.Sources.{read_pushed}
use Rattle.dt_tool.proofs.inputs.sources_of.Goals as goal

pub loop-bytes-preserved : goal.loop-bytes-preserved
loop-bytes-preserved c =
    let place : c.len.result ≡ length c.loop-bytes.sources.items = search rules in
    read_pushed (contents c.args.files.items) c.loop-bytes.sources.items c.push.new.self.items c.in_ok-source.source
    c.loop-bytes.bytes-iterator.rest.items c.next.new.self.rest.items c.in-Some.bytes
    c.in-Ok.ensures.items c.in-Some.ensures.steps.0 c.loop-bytes.invariant
    (rw place at c.in_ok-source.ensures.source) c.in_ok-source.ensures.bytes
    (rw place at c.in_ok-source.ensures.kept)
