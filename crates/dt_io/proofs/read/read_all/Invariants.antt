use Rattle.std.proofs.Common.{◌≡◌, ◌≤◌, ◌+◌, ◌-◌, ◌<◌, take, vec_len}
use Rattle.std.specs.Prelude.{All}
use Rattle.dt_io.specs.Files.{Held}
use Rattle.dt_io.specs.Folders.{IsOnlyRead}
use Rattle.dt_io.proofs.read.read_all.Given as goal

abbrev pub invariant-loop-folder : goal.invariant-loop-folder
invariant-loop-folder g l =
    let before = g.D.Folder.seen l.fn.folder in
    let after = g.D.Folder.seen l.folder in
    record {
      bytes : Held before.files l.name (λ file. l.bytes.items ≡ take (vec_len l.bytes) file);
      below : All (λ b. b < 256) l.bytes.items;
      limit : vec_len l.bytes ≤ l.limit;
      only : IsOnlyRead before after;
      reads : after.reads ≤ before.reads + vec_len l.bytes + 1;
    }

abbrev pub decreases-loop-folder : goal.decreases-loop-folder
decreases-loop-folder g l = l.limit - vec_len l.bytes
