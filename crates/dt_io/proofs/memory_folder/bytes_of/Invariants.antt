use Rattle.std.proofs.Common.{◌≡◌, drop}
use Rattle.dt_io.specs.Places.{content_of}
use Rattle.dt_io.proofs.memory_folder.bytes_of.Given as goal

abbrev pub invariant-loop-slot : goal.invariant-loop-slot
invariant-loop-slot l = content_of l.name (drop l.slot-index l.slots) ≡ content_of l.name l.slots
