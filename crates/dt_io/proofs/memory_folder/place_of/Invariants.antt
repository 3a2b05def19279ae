-- The first place of the name is among the rest.
use Rattle.std.proofs.Common.{◌≡◌, ◌++◌, List, ℕ, Option, take, drop}
use Rattle.dt_io.specs.Places.{changed, content_of, has_place, room_of}
use Rattle.dt_io.proofs.memory_folder.place_of.Given as goal

abbrev pub invariant-loop-number : goal.invariant-loop-number
invariant-loop-number l =
    record {
      there : has_place l.name (drop l.number l.slots) ≡ has_place l.name l.slots;
      content : content_of l.name (drop l.number l.slots) ≡ content_of l.name l.slots;
      room : room_of l.name (drop l.number l.slots) ≡ room_of l.name l.slots;
      changed : (content : Option (List ℕ))
          → take l.number l.slots ++ changed l.name content (drop l.number l.slots) ≡ changed l.name content l.slots;
    }
