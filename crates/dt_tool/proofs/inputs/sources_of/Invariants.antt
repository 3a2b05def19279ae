use Rattle.dt_tool.specs.View.{contents}
use Rattle.dt_tool.proofs.Sources.{AreRead}
use Rattle.dt_tool.proofs.inputs.sources_of.Given as goal

abbrev pub invariant-loop-bytes : goal.invariant-loop-bytes
invariant-loop-bytes l = AreRead (contents l.fn.files.items) l.sources.items (contents l.bytes-iterator.rest.items)
