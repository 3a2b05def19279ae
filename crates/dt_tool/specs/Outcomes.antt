-- What a run of the tool promises: each outcome, what is written and said, what stays (docs/COMMANDS.md, "Outcomes").
use Rattle.std.specs.Prelude.{ℕ, ◌≡◌, ◌≢◌, ◌≤◌, ◌⊎◌, List, [], map, get_or, Option, Some, None, IfSome, IsSome, Result, Ok, Err}
use Rattle.dt_io.specs.Bytes.{AppendsPart, extend}
use Rattle.dt_io.specs.Files.{Files, with_file}
use Rattle.dt_io.specs.Folders.{FolderSeen, ChangeFailed, IsOnlyRead, ReadFailed}
use Rattle.dt_io.specs.Outputs.{LeavesPart}
use Rattle.dt_io.specs.Sinks.{SinkSeen, IsOnlyWritten, Reports, WriteFailed}
use Rattle.dt_host.specs.Scripts.{answer_seen}
use Rattle.dt_words.specs.declared.command.Command.{Command}
use Rattle.dt_words.specs.declared.command.Command.TheVariants as command
use Rattle.dt_words.specs.declared.usage.Usage.{Usage}
use Rattle.dt_tool.specs.Due.{gen_task}
use Rattle.dt_tool.specs.Evaluations.{eval_task}
use Rattle.dt_tool.specs.Messages as said
use Rattle.dt_tool.specs.Stops.{IsMade, IsRefusal, IsUnread}
use Rattle.dt_tool.specs.Tasks.{Due, missing, refused, written, Task, IsDue}
use Rattle.dt_tool.specs.declared.status.Outcome.{Outcome}
use Rattle.dt_tool.specs.declared.status.Outcome.TheVariants as outcomes

-- what is seen of a run: its outcome, and the folder and the sinks before and after it
pub record RunSeen (O E : Type 0) : Type 0 where
  pub outcome : Outcome
  pub folder : FolderSeen
  pub folder_after : FolderSeen
  pub out : SinkSeen O
  pub out_after : SinkSeen O
  pub err : SinkSeen E
  pub err_after : SinkSeen E

-- the same from its parts
abbrev pub run_seen : {O E : Type 0} → Outcome → FolderSeen → FolderSeen → SinkSeen O → SinkSeen O → SinkSeen E
    → SinkSeen E → RunSeen O E
run_seen outcome folder folder_after out out_after err err_after = record {
  outcome = outcome;
  folder = folder;
  folder_after = folder_after;
  out = out;
  out_after = out_after;
  err = err;
  err_after = err_after;
}

-- a text is where it is to be: behind what is known of `out`, or in the file of this name, and no other file changed
abbrev pub Stands : {O E : Type 0} → Option (List ℕ) → RunSeen O E → List ℕ → Type 0
Stands None run text = run.out_after.written ≡ extend run.out.written text
Stands (Some name) run text = run.folder_after.files ≡ with_file run.folder.files name text

-- a part of it is there
abbrev pub StandsPart : {O E : Type 0} → Option (List ℕ) → RunSeen O E → List ℕ → Type 0
StandsPart None run text = AppendsPart run.out.written run.out_after.written text
StandsPart (Some name) run text = LeavesPart run.folder.files run.folder_after.files name text

abbrev pub WritingFailed : {O E : Type 0} → Option (List ℕ) → RunSeen O E → Type 0
WritingFailed None run = WriteFailed run.out run.out_after
WritingFailed (Some name) run = ChangeFailed run.folder run.folder_after

-- this was said
abbrev pub Says : {O E : Type 0} → RunSeen O E → List ℕ → Type 0
Says run text = Reports run.err run.err_after text

-- a text that is due stands whole, and nothing is said
pub record WritesText {O E : Type 0} (task : Task) (run : RunSeen O E) : Type 0 where
  pub text : List ℕ
  pub made : IsMade task run.folder.files text
  pub whole : Stands task.output run text
  pub said : run.err_after ≡ run.err

-- a part of such a text stands, since a write failed, and that is said
pub record WritesPart {O E : Type 0} (task : Task) (run : RunSeen O E) : Type 0 where
  pub text : List ℕ
  pub made : IsMade task run.folder.files text
  pub part : StandsPart task.output run text
  pub cause : WritingFailed task.output run
  pub said : Says run said.cannot_write

-- a refusal that is due is said
pub record SaysRefusal {O E : Type 0} (task : Task) (run : RunSeen O E) : Type 0 where
  pub message : List ℕ
  pub refusal : IsRefusal task run.folder.files message
  pub said : Says run message

-- a file where the reading stops is named
pub record NamesUnread {O E : Type 0} (task : Task) (run : RunSeen O E) : Type 0 where
  pub place : ℕ
  pub unread : IsUnread task.limit run.folder run.folder_after task.names place
  pub said : Says run (said.cannot_read (said.name_at task.names place))

-- what each outcome means, with what is said for it
abbrev pub Means : {O E : Type 0} → Task → RunSeen O E → Outcome → Type 0
Means task run outcomes.Done = WritesText task run
Means task run outcomes.Refused = SaysRefusal task run
Means task run outcomes.Usage = ⊥
Means task run outcomes.ReadFault = NamesUnread task run
Means task run outcomes.WriteFault = WritesPart task run
Means task run outcomes.NoMemory = Says run said.no_memory

-- while memory, reads and writes last, the outcome is that of what is due
abbrev pub Completes : Due → Outcome → Type 0 → Type 0 → Type 0
Completes (missing file) outcome ReadFails WriteFails =
    (outcome ≡ outcomes.ReadFault) ⊎ ((outcome ≡ outcomes.NoMemory) ⊎ ReadFails)
Completes (refused message) outcome ReadFails WriteFails =
    (outcome ≡ outcomes.Refused) ⊎ ((outcome ≡ outcomes.NoMemory) ⊎ ReadFails)
Completes (written text) outcome ReadFails WriteFails =
    (outcome ≡ outcomes.Done) ⊎ ((outcome ≡ outcomes.NoMemory) ⊎ (ReadFails ⊎ WriteFails))

abbrev pub CompletesOver : {O E : Type 0} → Task → RunSeen O E → Files → Type 0
CompletesOver task run files = (what : Due) → IsDue task files what
    → Completes what run.outcome (ReadFailed run.folder run.folder_after) (WritingFailed task.output run)

-- no count of the folder falls
pub record NoCountFalls (before after : FolderSeen) : Type 0 where
  pub misses : before.misses ≤ after.misses
  pub read_faults : before.read_faults ≤ after.read_faults
  pub write_faults : before.write_faults ≤ after.write_faults
  pub reads : before.reads ≤ after.reads

-- No count falls, and nothing but bytes of the sinks and the file of the output changes. That file changes, and `out`
-- is written to, only where the outcome says so.
pub record ChangesOnly {O E : Type 0} (output : Option (List ℕ)) (run : RunSeen O E) : Type 0 where
  pub counts : NoCountFalls run.folder run.folder_after
  pub read : (run.outcome ≢ outcomes.Done) × (run.outcome ≢ outcomes.WriteFault)
      → IsOnlyRead run.folder run.folder_after × (run.out_after ≡ run.out)
  pub to_out : output ≡ None → IsOnlyRead run.folder run.folder_after
  pub to_file : IsSome output → run.out_after ≡ run.out
  pub out : IsOnlyWritten run.out run.out_after
  pub err : IsOnlyWritten run.err run.err_after

-- the promise of a run that does what a command is asked for
pub record IsRightTask {O E : Type 0} (task : Task) (run : RunSeen O E) : Type 0 where
  pub means : Means task run run.outcome
  pub complete : IfSome run.folder.files (CompletesOver task run)
  pub only : ChangesOnly task.output run

-- what an outcome means where the words are no command, of which this is to be said
abbrev pub MeansUsage : {O E : Type 0} → List ℕ → RunSeen O E → Outcome → Type 0
MeansUsage message run outcomes.Done = ⊥
MeansUsage message run outcomes.Refused = ⊥
MeansUsage message run outcomes.Usage = Says run message
MeansUsage message run outcomes.ReadFault = ⊥
MeansUsage message run outcomes.WriteFault = ⊥
MeansUsage message run outcomes.NoMemory = Says run said.no_memory

-- the promise of such a run
pub record IsRightUsage {O E : Type 0} (message : List ℕ) (run : RunSeen O E) : Type 0 where
  pub means : MeansUsage message run run.outcome
  pub folder : run.folder_after ≡ run.folder
  pub out : run.out_after ≡ run.out

-- the file that a command writes to, if it is one and names it
abbrev pub output_named : {F : Type 0} → Result Command F → Option (List ℕ)
output_named (Err fault) = None
output_named (Ok (command.Gen options output names test)) = output
output_named (Ok (command.Eval text word place outcomes answers)) = None

-- the promise of a run with these words, which are this command, or aren't one
abbrev pub IsRight : {O E : Type 0} → List (List ℕ) → Result Command (Usage × Option ℕ) → RunSeen O E → Type 0
IsRight words (Err fault) run = IsRightUsage (said.usage_message words fault) run
IsRight words (Ok (command.Gen options output names test)) run =
    IsRightTask (gen_task (record { options = options; output = output; names = names })) run
IsRight words (Ok (command.Eval text word place outcomes answers)) run =
    IsRightTask
    (eval_task (record {
      text = text;
      word = word;
      given = get_or words place [];
      outcomes = outcomes;
      answers = map answer_seen answers;
    }))
    run
