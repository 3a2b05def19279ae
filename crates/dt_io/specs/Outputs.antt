-- A file that is written whole, and a sink over one file of a folder.
use Rattle.std.specs.Prelude.{ℕ, ◌≡◌, ◌<◌, List, length, take, Option, Result, OnOk, OnErr}
use Rattle.dt_io.specs.Files.{Files, file_at, with_file, without}
use Rattle.dt_io.specs.Folders.{FolderSeen, ChangeFailed, IsOnlyChanged}
use Rattle.dt_io.specs.Sinks.{SinkSeen}

-- what is kept of a folder beside one file: that file's name, the other files where they are known, the counts, and the
-- reference that lends the folder, so that what comes back is the folder that was lent
pub record BesideFile : Type 0 where
  pub name : List ℕ
  pub others : Option Files
  pub misses : ℕ
  pub read_faults : ℕ
  pub reads : ℕ
  pub reference : ℕ

-- what is seen of a sink over the file of this name in a folder that is lent by this reference
abbrev pub file_seen : FolderSeen → List ℕ → ℕ → SinkSeen BesideFile
file_seen folder name reference = record {
  written = file_at folder.files name;
  faults = folder.write_faults;
  rest = record {
    name = name;
    others = without folder.files name;
    misses = folder.misses;
    read_faults = folder.read_faults;
    reads = folder.reads;
    reference = reference;
  };
}

-- A file is left over by a write that failed: it is as it was, or it holds bytes of the text from its start, and not
-- all of them. No other file changed.
pub data LeavesPart (before after : Option Files) (name text : List ℕ) : Type 0 where
  as_before : after ≡ before → LeavesPart before after name text
  part : (n : ℕ) → n < length text → after ≡ with_file before name (take n text) → LeavesPart before after name text

-- A text is written to the file of this name: the file holds it, or a part of it up to the first change that failed.
pub record Outputs {T E : Type 0} (before after : FolderSeen) (name text : List ℕ) (result : Result T E) : Type 0 where
  pub all : OnOk result (after.files ≡ with_file before.files name text)
  pub part : OnErr result (LeavesPart before.files after.files name text)
  pub cause : OnErr result (ChangeFailed before after)
  pub only : IsOnlyChanged before after
