-- What a run promises where a text is made, and where it stops.
use Rattle.std.proofs.Common.{◌≡◌, ◌≢◌, ◌≤◌, ℕ, List, Option, Some, None, Result, Err, refl, ap, sym, ◌∙◌, subst, arith}
use Rattle.std.proofs.Common.{inl, inr, ◌⊎◌}
use Rattle.std.specs.Prelude.{IfSome}
use Rattle.dt_io.specs.Causes.{Rose}
use Rattle.dt_io.specs.Files.{Files, with_file}
use Rattle.dt_io.specs.Folders.{FolderSeen, IsOnlyRead, ReadFailed}
use Rattle.dt_io.specs.Outputs.{LeavesPart}
use Rattle.dt_io.specs.Sinks.{SinkSeen, IsOnlyWritten}
use Rattle.dt_tool.specs.Delivery.{DeliveryMeans, Delivers}
use Rattle.dt_tool.specs.Inputs as inputs
use Rattle.dt_tool.specs.Inputs.{inputs_of, texts_in}
use Rattle.dt_tool.specs.Messages as said
use Rattle.dt_tool.specs.Outcomes.{RunSeen, Completes, CompletesOver, IsRightTask, Means, ChangesOnly, NoCountFalls}
use Rattle.dt_tool.specs.Outcomes.{Says, Stands, StandsPart, WritingFailed}
use Rattle.dt_tool.specs.Stops.{IsMade, IsTextOf, StopsTask}
use Rattle.dt_tool.specs.Tasks.{Task, Due, missing, refused, written, IsDue, IsDueOfTexts}
use Rattle.dt_tool.specs.View.{message_of, outcome_of}
use Rattle.dt_tool.specs.declared.stop.Stop.{Stop}
use Rattle.dt_tool.specs.declared.stop.Stop.TheVariants as stops
use Rattle.dt_tool.specs.declared.status.Outcome.{Outcome}
use Rattle.dt_tool.specs.declared.status.Outcome.TheVariants as outcomes
use Rattle.dt_tool.proofs.OneDue.{IsOnce, one_due}

only_the_same : {R : Type 0} (before after : SinkSeen R) → after ≡ before → IsOnlyWritten before after
only_the_same before after same =
    record {
      faults = let f = ap (λ (s : SinkSeen _). s.faults) same in omega arith;
      rest = ap
          (λ (s : SinkSeen _). s.rest) same;
    }

no_later : (a b c : ℕ) → a ≤ b → b ≤ c → a ≤ c
no_later a b c h k = omega arith

same_or_less : (a b : ℕ) → b ≡ a → a ≤ b
same_or_less a b h = omega arith

read_falls_not : (before after : FolderSeen) → IsOnlyRead before after → NoCountFalls before after
read_falls_not before after only = record {
  misses = only.misses;
  read_faults = only.read_faults;
  write_faults = same_or_less before.write_faults after.write_faults only.write_faults;
  reads = only.reads;
}

falls_not : (before mid after : FolderSeen) → IsOnlyRead before mid → NoCountFalls mid after → NoCountFalls before after
falls_not before mid after only counts = record {
  misses = no_later before.misses mid.misses after.misses only.misses counts.misses;
  read_faults = no_later before.read_faults mid.read_faults after.read_faults only.read_faults counts.read_faults;
  write_faults = no_later before.write_faults mid.write_faults after.write_faults
      (same_or_less before.write_faults mid.write_faults only.write_faults) counts.write_faults;
  reads = no_later before.reads mid.reads after.reads only.reads counts.reads;
}

-- a run whose folder was read before
abbrev pub late : {O E : Type 0} → FolderSeen → RunSeen O E → RunSeen O E
late mid run = record {
  outcome = run.outcome;
  folder = mid;
  folder_after = run.folder_after;
  out = run.out;
  out_after = run.out_after;
  err = run.err;
  err_after = run.err_after;
}

module _ {O E : Type 0} (task : Task) (once : IsOnce task) (run : RunSeen O E) where
  -- what is due decides how a run is completed
  completes : (files : Files) (made : Due) → IsDue task files made
      → Completes made run.outcome (ReadFailed run.folder run.folder_after) (WritingFailed task.output run)
      → CompletesOver task run files
  completes files made due is = λ what h. subst
      (λ (d : Due). Completes d run.outcome (ReadFailed run.folder run.folder_after) (WritingFailed task.output run))
      (one_due task once files made what due h) is

  -- a text was made, and handed over
  module _ (mid : FolderSeen) (only : IsOnlyRead run.folder mid) (text : List ℕ)
      (made : IsMade task run.folder.files text) where
    stands : (output : Option (List ℕ)) → Stands output (late mid run) text → Stands output run text
    stands None h = h
    stands (Some name) h = h ∙ ap (λ known. with_file known name text) only.files

    stands_part : (output : Option (List ℕ)) → StandsPart output (late mid run) text → StandsPart output run text
    stands_part None h = h
    stands_part (Some name) h = subst
        (λ (known : Option Files). LeavesPart known run.folder_after.files name text) only.files h

    writing_failed : (output : Option (List ℕ)) → WritingFailed output (late mid run) → WritingFailed output run
    writing_failed None h = h
    writing_failed (Some name) h = subst (λ n. Rose n run.folder_after.write_faults) only.write_faults h

    means : (outcome : Outcome) → DeliveryMeans task.output text (late mid run) outcome → Means task run outcome
    means outcomes.Done h = record { text = text; made = made; whole = stands task.output h.whole; said = h.said }
    means outcomes.Refused h = absurd h
    means outcomes.Usage h = absurd h
    means outcomes.ReadFault h = absurd h
    means outcomes.WriteFault h = record {
      text = text;
      made = made;
      part = stands_part task.output h.part;
      cause = writing_failed task.output
          h.cause;
      said = h.said;
    }
    means outcomes.NoMemory h = absurd h

    written_completes : (outcome : Outcome) → DeliveryMeans task.output text (late mid run) outcome
        → Completes (written text) outcome (ReadFailed run.folder run.folder_after) (WritingFailed task.output run)
    written_completes outcomes.Done h = inl refl
    written_completes outcomes.Refused h = absurd h
    written_completes outcomes.Usage h = absurd h
    written_completes outcomes.ReadFault h = absurd h
    written_completes outcomes.WriteFault h = inr (inr (inr (writing_failed task.output h.cause)))
    written_completes outcomes.NoMemory h = absurd h

    complete_over : (known : Option Files) → IfSome known (λ files. IsTextOf task (inputs_of files task.names) text)
        → Completes (written text) run.outcome (ReadFailed run.folder run.folder_after)
        (WritingFailed task.output run) → IfSome known (CompletesOver task run)
    complete_over None due is = tt
    complete_over (Some files) due is = completes files (written text) due.due is

    one_of_two : (outcome : Outcome) → DeliveryMeans task.output text (late mid run) outcome
        → (outcome ≢ outcomes.Done) × (outcome ≢ outcomes.WriteFault) → ⊥
    one_of_two outcomes.Done h neither = neither.0 refl
    one_of_two outcomes.Refused h neither = h
    one_of_two outcomes.Usage h neither = h
    one_of_two outcomes.ReadFault h neither = h
    one_of_two outcomes.WriteFault h neither = neither.1 refl
    one_of_two outcomes.NoMemory h neither = h

    pub right_text : Delivers task.output text (late mid run) → IsRightTask task run
    right_text delivers = record {
      means = means run.outcome delivers.means;
      complete = complete_over run.folder.files made.known (written_completes run.outcome delivers.means);
      only = record {
        counts = falls_not run.folder mid run.folder_after only delivers.counts;
        read = λ neither. absurd (one_of_two run.outcome delivers.means neither);
        to_out = λ none. subst (λ (after : FolderSeen). IsOnlyRead run.folder after) (sym (delivers.to_out none)) only;
        to_file = delivers.to_file;
        out = delivers.out;
        err = delivers.err;
      };
    }

  -- no text was made
  module _ (only : IsOnlyRead run.folder run.folder_after) (same : run.out_after ≡ run.out) where
    stop_changes : IsOnlyWritten run.err run.err_after → ChangesOnly task.output run
    stop_changes err = record {
      counts = read_falls_not run.folder run.folder_after only;
      read = λ neither. (only, same);
      to_out = λ none. only;
      to_file = λ some. same;
      out = only_the_same run.out run.out_after same;
      err = err;
    }

    right_of : (outcome : Outcome) → run.outcome ≡ outcome → Means task run outcome
        → IfSome run.folder.files (CompletesOver task run) → IsOnlyWritten run.err run.err_after → IsRightTask task run
    right_of outcome is means complete err = record {
      means = subst (λ (o : Outcome). Means task run o) (sym is) means;
      complete = complete;
      only = stop_changes err;
    }

    refusal_complete : (message : List ℕ) (known : Option Files) → run.outcome ≡ outcomes.Refused
        → IfSome known (λ files. IsDue task files (refused message)) → IfSome known (CompletesOver task run)
    refusal_complete message None is due = tt
    refusal_complete message (Some files) is due = completes files (refused message) due (inl is)

    -- a read fault completes what is due, whether the input isn't held or a read failed
    failed_complete : (what : Due) → run.outcome ≡ outcomes.ReadFault → ReadFailed run.folder run.folder_after
        → Completes what run.outcome (ReadFailed run.folder run.folder_after) (WritingFailed task.output run)
    failed_complete (missing file) is failed = inl is
    failed_complete (refused message) is failed = inr (inr failed)
    failed_complete (written text) is failed = inr (inr (inl failed))

    missing_due : (files : Files) (file : List ℕ) → texts_in task.limit (inputs_of files task.names) ≡ Err (inputs.missing file)
        → IsDue task files (missing file)
    missing_due files file is = let P : Result (List (List ℕ)) inputs.Unread
        → Type 0 = λ r. IsDueOfTexts task r (missing file) in subst P (sym is) refl

    unread_complete : (file : List ℕ) (known : Option Files) → run.outcome ≡ outcomes.ReadFault
        → IfSome known (λ files. (texts_in task.limit (inputs_of files task.names) ≡ Err (inputs.missing file))
        ⊎ ReadFailed run.folder run.folder_after) → IfSome known (CompletesOver task run)
    unread_complete file None is h = tt
    unread_complete file (Some files) is (inl none) =
        completes files (missing file) (missing_due files file none) (inl is)
    unread_complete file (Some files) is (inr failed) = λ what due. failed_complete what is failed

    -- want of memory completes anything
    memory_complete : (what : Due) → run.outcome ≡ outcomes.NoMemory
        → Completes what run.outcome (ReadFailed run.folder run.folder_after) (WritingFailed task.output run)
    memory_complete (missing file) is = inr (inl is)
    memory_complete (refused message) is = inr (inl is)
    memory_complete (written text) is = inr (inl is)

    memory_complete_over : (known : Option Files) → run.outcome ≡ outcomes.NoMemory
        → IfSome known (CompletesOver task run)
    memory_complete_over None is = tt
    memory_complete_over (Some files) is = λ what due. memory_complete what is

    pub right_stop : (stop : Stop) → StopsTask task run.folder run.folder_after stop → run.outcome ≡ outcome_of stop
        → Says run (message_of stop) → IsRightTask task run
    right_stop (stops.ReadFault message) stop is says =
        right_of outcomes.ReadFault is
        (record { place = stop.place; unread = stop.unread; said = subst (λ (m : List ℕ). Says run m) stop.said says })
        (unread_complete (said.name_at task.names stop.place) run.folder.files is stop.unread.stops) says.only
    right_stop (stops.Refused message) stop is says =
        right_of outcomes.Refused is (record { message = message.items; refusal = stop; said = says })
        (refusal_complete message.items run.folder.files is stop.known) says.only
    right_stop stops.NoMemory stop is says =
        right_of outcomes.NoMemory is says (memory_complete_over run.folder.files is) says.only
