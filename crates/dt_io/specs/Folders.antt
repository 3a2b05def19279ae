-- What is seen of a folder, before it is read or changed and after that.
use Rattle.std.specs.Prelude.{ℕ, ◌≡◌, ◌≤◌, List, Option, None, Result, Ok, Err, IsErrOf, OnErr}
use Rattle.dt_io.specs.Causes.{Rose, one_more}
use Rattle.dt_io.specs.Files.{Files, NotHeld}
use Rattle.dt_io.specs.declared.folders.FolderFault.{FolderFault}
use Rattle.dt_io.specs.declared.folders.FolderFault.TheVariants as fault

-- what is seen of a folder
pub record FolderSeen : Type 0 where
  -- where they are known
  pub files : Option Files
  -- how often a file was missing
  pub misses : ℕ
  -- how often a read failed
  pub read_faults : ℕ
  -- how often a change failed
  pub write_faults : ℕ
  -- how many reads were made
  pub reads : ℕ

-- A file was missing: the count of misses rose.
abbrev pub Missed : FolderSeen → FolderSeen → Type 0
Missed before after = Rose before.misses after.misses

-- A read failed: the count of failed reads rose.
abbrev pub ReadFailed : FolderSeen → FolderSeen → Type 0
ReadFailed before after = Rose before.read_faults after.read_faults

-- A change failed: the count of failed changes rose.
abbrev pub ChangeFailed : FolderSeen → FolderSeen → Type 0
ChangeFailed before after = Rose before.write_faults after.write_faults

-- The folder is read and no more: its files and the count of failed changes stay, and no count falls.
pub record IsOnlyRead (before after : FolderSeen) : Type 0 where
  pub files : after.files ≡ before.files
  pub misses : before.misses ≤ after.misses
  pub read_faults : before.read_faults ≤ after.read_faults
  pub write_faults : after.write_faults ≡ before.write_faults
  pub reads : before.reads ≤ after.reads

-- The folder is changed and not read: the count of failed changes doesn't fall, and the others stay.
pub record IsOnlyChanged (before after : FolderSeen) : Type 0 where
  pub misses : after.misses ≡ before.misses
  pub read_faults : after.read_faults ≡ before.read_faults
  pub write_faults : before.write_faults ≤ after.write_faults
  pub reads : after.reads ≡ before.reads

-- A change with this answer leaves these files. It fails only where the count of failed changes rose.
pub record Changes {T E : Type 0} (before after : FolderSeen) (leaves : Option Files)
    (result : Result T E) : Type 0 where
  pub files : after.files ≡ leaves
  pub cause : OnErr result (ChangeFailed before after)
  pub only : IsOnlyChanged before after

-- Why a file of this name wasn't read.
pub record HasReadCause {T : Type 0} (before after : FolderSeen) (name : List ℕ)
    (result : Result T FolderFault) : Type 0 where
  pub missing : IsErrOf result fault.Missing → NotHeld before.files name
  pub missed : IsErrOf result fault.Missing → Missed before after
  pub failed : IsErrOf result fault.Failed → ReadFailed before after

-- what is seen of a folder whose files aren't known
pub record FolderCounts : Type 0 where
  pub misses : ℕ
  pub read_faults : ℕ
  pub write_faults : ℕ
  pub reads : ℕ

abbrev pub counts_seen : FolderCounts → FolderSeen
counts_seen counts = record {
  files = None;
  misses = counts.misses;
  read_faults = counts.read_faults;
  write_faults = counts.write_faults;
  reads = counts.reads;
}

-- the counts behind a read with this answer
abbrev pub after_answer : FolderCounts → Result ℕ FolderFault → FolderCounts
after_answer counts (Ok n) = record counts { reads = one_more counts.reads }
after_answer counts (Err fault.Missing) =
    record counts { reads = one_more counts.reads; misses = one_more counts.misses }
after_answer counts (Err fault.Failed) =
    record counts { reads = one_more counts.reads; read_faults = one_more counts.read_faults }

-- the counts behind a change with this answer
abbrev pub after_change : {T E : Type 0} → FolderCounts → Result T E → FolderCounts
after_change counts (Ok t) = counts
after_change counts (Err e) = record counts { write_faults = one_more counts.write_faults }
