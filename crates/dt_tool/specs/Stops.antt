-- What comes of the files that are read: a text, or what stops on the way to it.
use Rattle.std.specs.Prelude.{ℕ, ◌≡◌, ◌<◌, ◌≤◌, ◌⊎◌, List, length, take, All, Option, Some, Result, Ok, Err, IfSome, IsOk}
use Rattle.std.specs.Prelude.{Vec}
use Rattle.dt_io.specs.Files.{Files, Held, NotHeld}
use Rattle.dt_io.specs.Folders.{FolderSeen, Missed, ReadFailed}
use Rattle.dt_tool.specs.Inputs.{Input, missing, too_large, inputs_of, texts_in, AreSomeInputs}
use Rattle.dt_tool.specs.declared.refusal.Refusal.TheVariants as refusal
use Rattle.dt_tool.specs.Messages as said
use Rattle.dt_tool.specs.Tasks.{Due, refused, written, Task, IsDue, IsDueOfInputs}
use Rattle.dt_tool.specs.declared.stop.Stop.{Stop}
use Rattle.dt_tool.specs.declared.stop.Stop.TheVariants as stops

-- a text is what a written one is besides, for what is read of these inputs
pub record IsBesides (task : Task) (inputs : List Input) (text : List ℕ) : Type 0 where
  pub texts : List (List ℕ)
  pub read : texts_in task.limit inputs ≡ Ok texts
  pub besides : task.besides texts text

-- a text is due for these inputs, with what it is besides
pub record IsTextOf (task : Task) (inputs : List Input) (text : List ℕ) : Type 0 where
  pub due : IsDueOfInputs task inputs (written text)
  pub besides : IsBesides task inputs text

-- some bytes in the files that are named make this so; two readings of one name may give different ones
pub record ForSome (task : Task) (P : List Input → Type 0) : Type 0 where
  pub inputs : List Input
  pub some : AreSomeInputs task.names inputs
  pub holds : P inputs

-- a text is due, over the files where they are known, and for some bytes in them
pub record IsMade (task : Task) (files : Option Files) (text : List ℕ) : Type 0 where
  pub known : IfSome files (λ files. IsTextOf task (inputs_of files task.names) text)
  pub some : ForSome task (λ inputs. IsTextOf task inputs text)

-- a refusal with this message is due, over the files where they are known, and for some bytes in them
pub record IsRefusal (task : Task) (files : Option Files) (message : List ℕ) : Type 0 where
  pub known : IfSome files (λ files. IsDue task files (refused message))
  pub some : ForSome task (λ inputs. IsDueOfInputs task inputs (refused message))

-- the reading of files of these names stops at the one at this place, and why; those before it were read
pub record IsUnread (limit : ℕ) (before after : FolderSeen) (names : List (List ℕ)) (place : ℕ) : Type 0 where
  pub named : place < length names
  pub cause : Missed before after ⊎ ReadFailed before after
  pub stops : IfSome before.files (λ files.
      (texts_in limit (inputs_of files names) ≡ Err (missing (said.name_at names place))) ⊎ ReadFailed before after)
  pub earlier : IfSome before.files (λ files. IsOk (texts_in limit (inputs_of files (take place names))))

-- and this is said of it
pub record SaysUnread (limit : ℕ) (before after : FolderSeen) (names : List (List ℕ)) (message : List ℕ)
    : Type 0 where
  pub place : ℕ
  pub unread : IsUnread limit before after names place
  pub said : message ≡ said.cannot_read (said.name_at names place)

-- why a command makes no text; that memory runs out has no cause
abbrev pub StopsTask : Task → FolderSeen → FolderSeen → Stop → Type 0
StopsTask task before after (stops.ReadFault message) = SaysUnread task.limit before after task.names message.items
StopsTask task before after (stops.Refused message) = IsRefusal task before.files message.items
StopsTask task before after stops.NoMemory = Unit {0}

abbrev pub AnswersTask : {A : Type 0} → Task → FolderSeen → FolderSeen → Result (Vec ℕ A) Stop → Type 0
AnswersTask task before after (Ok text) = IsMade task before.files text.items
AnswersTask task before after (Err stop) = StopsTask task before after stop

-- a refusal says what is due; no other stop but that memory runs out comes
abbrev pub Refuses : Stop → (Due → Type 0) → Type 0
Refuses (stops.ReadFault message) IsDue = ⊥
Refuses (stops.Refused message) IsDue = IsDue (refused message.items)
Refuses stops.NoMemory IsDue = Unit {0}

-- a text of files that are read is what is due, or a refusal is
abbrev pub MakesDue : {A : Type 0} → Result (Vec ℕ A) Stop → (Due → Type 0) → Type 0
MakesDue (Ok text) IsDue = IsDue (written text.items)
MakesDue (Err stop) IsDue = Refuses stop IsDue

-- why a file wasn't read, with what is said of it
pub record SaysUnreadFile (before after : FolderSeen) (file message : List ℕ) : Type 0 where
  pub said : message ≡ said.cannot_read file
  pub cause : Missed before after ⊎ ReadFailed before after
  pub missing : NotHeld before.files file ⊎ ReadFailed before after

-- why a file wasn't loaded
abbrev pub StopsLoad : ℕ → FolderSeen → FolderSeen → List ℕ → Stop → Type 0
StopsLoad limit before after file (stops.ReadFault message) = SaysUnreadFile before after file message.items
StopsLoad limit before after file (stops.Refused message) =
    (message.items ≡ said.refusal_message refusal.K0 (Some file)) × Held before.files file (λ held. limit < length held)
StopsLoad limit before after file stops.NoMemory = Unit {0}

-- these are the texts of the files of these names
pub record AreLoaded (limit : ℕ) (known : Option Files) (names texts : List (List ℕ)) : Type 0 where
  pub all : length texts ≡ length names
  pub small : All (λ text. length text ≤ limit) texts
  pub bytes : All (All (λ b. b < 256)) texts
  pub held : IfSome known (λ files. texts_in limit (inputs_of files names) ≡ Ok texts)

-- one of the files is too large, and this is said of it
pub record SaysTooLarge (limit : ℕ) (known : Option Files) (names : List (List ℕ)) (message : List ℕ)
    : Type 0 where
  pub place : ℕ
  pub named : place < length names
  pub stops : IfSome known (λ files.
      texts_in limit (inputs_of files names) ≡ Err (too_large (said.name_at names place)))
  pub said : message ≡ said.refusal_message refusal.K0 (Some (said.name_at names place))

-- why not all of the files were loaded
abbrev pub StopsLoading : ℕ → FolderSeen → FolderSeen → List (List ℕ) → Stop → Type 0
StopsLoading limit before after names (stops.ReadFault message) = SaysUnread limit before after names message.items
StopsLoading limit before after names (stops.Refused message) = SaysTooLarge limit before.files names message.items
StopsLoading limit before after names stops.NoMemory = Unit {0}
