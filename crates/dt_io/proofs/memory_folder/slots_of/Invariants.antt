use Rattle.std.proofs.Common.{◌≡◌, ◌++◌, map, take}
use Rattle.dt_io.specs.Places.{file_place, output_place}
use Rattle.dt_io.specs.MemoryFolders.{names_of, pairs_of}
use Rattle.dt_io.proofs.memory_folder.slots_of.Given as goal

abbrev pub invariant-loop-name : goal.invariant-loop-name
invariant-loop-name l = l.slots.items ≡ map (file_place l.room) (pairs_of l.files) ++ map (output_place l.room)
    (names_of (take l.name-index l.outputs))
