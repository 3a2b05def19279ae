use Rattle.std.proofs.Common.{take}
use Rattle.dt_io.specs.Folders.{IsOnlyRead}
use Rattle.dt_tool.specs.Stops.{AreLoaded}
use Rattle.dt_tool.specs.View.{contents}
use Rattle.dt_tool.proofs.inputs.load_all.Given as goal

abbrev pub invariant-loop-name : goal.invariant-loop-name
invariant-loop-name g l =
    let before = g.D.Folder.seen l.fn.folder in
    record {
      loaded : AreLoaded l.limit before.files (take l.name-index l.names) (contents l.files.items);
      only : IsOnlyRead before (g.D.Folder.seen l.folder);
    }
