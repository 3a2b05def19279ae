use Rattle.std.proofs.Common.{◌≡◌, map, take}
use Rattle.dt_io.specs.Places.{file_place}
use Rattle.dt_io.specs.MemoryFolders.{pairs_of}
use Rattle.dt_io.proofs.memory_folder.file_slots.Given as goal

abbrev pub invariant-loop-file : goal.invariant-loop-file
invariant-loop-file l = l.slots.items ≡ map (file_place l.room) (pairs_of (take l.file-index l.files))
