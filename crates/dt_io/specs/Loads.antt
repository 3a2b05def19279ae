-- A file read whole, up to a limit.
use Rattle.std.specs.Prelude.{ℕ, ◌<◌, ◌≤◌, ◌⊎◌, List, length, Result, IsOk, IsErrOf}
use Rattle.dt_io.specs.Files.{Held, NotHeld, IfHeld, IfNotHeld}
use Rattle.dt_io.specs.Folders.{FolderSeen, Missed, ReadFailed}
use Rattle.dt_io.specs.declared.folders.FolderFault.{FolderFault}
use Rattle.dt_io.specs.declared.folders.FolderFault.TheVariants as cases
use Rattle.dt_io.specs.declared.read.LoadFault.{LoadFault}
use Rattle.dt_io.specs.declared.read.LoadFault.TheVariants as fault

-- the fault of a load that a folder's fault is
abbrev pub load_fault : FolderFault → LoadFault
load_fault cases.Missing = fault.Missing
load_fault cases.Failed = fault.Failed

-- Why a file of this name wasn't loaded. Memory alone runs out without a cause.
pub record HasLoadCause {T : Type 0} (before after : FolderSeen) (name : List ℕ) (limit : ℕ)
    (result : Result T LoadFault) : Type 0 where
  pub missing : IsErrOf result fault.Missing → NotHeld before.files name
  pub missed : IsErrOf result fault.Missing → Missed before after
  pub failed : IsErrOf result fault.Failed → ReadFailed before after
  pub large : IsErrOf result fault.TooLarge → Held before.files name (λ file. limit < length file)

-- What a load answers where no read failed: a file within the limit is loaded unless memory runs out, a longer one is
-- too large, and one that isn't there is missing.
pub record LoadsUnlessFailed {T : Type 0} (before after : FolderSeen) (name : List ℕ) (limit : ℕ)
    (result : Result T LoadFault) : Type 0 where
  pub within : IfHeld before.files name (λ file.
      length file ≤ limit → IsOk result ⊎ (IsErrOf result fault.NoMemory ⊎ ReadFailed before after))
  pub large : IfHeld before.files name (λ file.
      limit < length file → IsErrOf result fault.TooLarge ⊎ ReadFailed before after)
  pub missing : IfNotHeld before.files name (IsErrOf result fault.Missing ⊎ ReadFailed before after)
