-- What is made of the files that are loaded is due, for the folder's files and for some bytes in those that are named;
-- so is what stops the reading.
use Rattle.std.proofs.Common.{◌≡◌, ℕ, List, [], get_or, Option, Some, None, Result, Ok, Err, ap, sym, subst}
use Rattle.std.specs.Prelude.{Vec, IfOk, IfSome}
use Rattle.dt_io.specs.Files.{Files}
use Rattle.dt_io.specs.Folders.{FolderSeen}
use Rattle.dt_tool.specs.Inputs.{Input, Unread, too_large, inputs_of, texts_in}
use Rattle.dt_tool.specs.declared.refusal.Refusal.TheVariants as refusal
use Rattle.dt_tool.specs.Messages as said
use Rattle.dt_tool.specs.Stops.{AnswersTask, AreLoaded, IsTextOf, MakesDue, StopsTask, StopsLoading}
use Rattle.dt_tool.specs.Tasks.{Task, Due, refused, written, IsDue, IsDueOfInputs, IsDueOfTexts}
use Rattle.dt_tool.specs.declared.stop.Stop.{Stop}
use Rattle.dt_tool.specs.declared.stop.Stop.TheVariants as stops
use Rattle.dt_tool.proofs.Loading.{ReadOfSome, loaded_of_some, large_of_some}

module _ (task : Task) where
  due_of_read : (inputs : List Input) (read : Result (List (List ℕ)) Unread) (what : Due) → texts_in task.limit inputs ≡ read
      → IsDueOfTexts task read what → IsDueOfInputs task inputs what
  due_of_read inputs read what is due =
      subst (λ (r : Result (List (List ℕ)) Unread). IsDueOfTexts task r what) (sym is) due

  -- what is made of loaded texts
  text_of_read : (inputs : List Input) (texts : List (List ℕ)) (text : List ℕ) → texts_in task.limit inputs ≡ Ok texts
      → task.due texts (written text) → task.besides texts text
      → IsTextOf task inputs text
  text_of_read inputs texts text is due besides = record {
    due = due_of_read inputs (Ok texts) (written text) is due;
    besides = record { texts = texts; read = is; besides = besides };
  }

  text_known : (known : Option Files) (texts : List (List ℕ)) (text : List ℕ) → AreLoaded task.limit known task.names texts
      → task.due texts (written text) → task.besides texts text
      → IfSome known (λ files. IsTextOf task (inputs_of files task.names) text)
  text_known None texts text loaded due besides = tt
  text_known (Some files) texts text loaded due besides =
      text_of_read (inputs_of files task.names) texts text loaded.held due besides

  refusal_known : (known : Option Files) (texts : List (List ℕ)) (message : List ℕ)
      → AreLoaded task.limit known task.names texts → task.due texts (refused message)
      → IfSome known (λ files. IsDue task files (refused message))
  refusal_known None texts message loaded due = tt
  refusal_known (Some files) texts message loaded due =
      due_of_read (inputs_of files task.names) (Ok texts) (refused message) loaded.held due

  pub made : (A : Type 0) (before after : FolderSeen) (texts : List (List ℕ)) (result : Result (Vec ℕ A) Stop)
      → AreLoaded task.limit before.files task.names texts
      → MakesDue result (task.due texts)
      → IfOk result (λ text. task.besides texts text.items) → AnswersTask task before after result
  made A before after texts (Ok text) loaded due besides =
      let of : ReadOfSome task.limit task.names (Ok texts) = loaded_of_some task.limit before.files task.names texts loaded in
      record {
        known = text_known before.files texts text.items loaded due besides;
        some = record {
          inputs = of.inputs;
          some = of.some;
          holds = text_of_read of.inputs texts text.items of.is due besides;
        };
      }
  made A before after texts (Err (stops.ReadFault message)) loaded due besides = absurd due
  made A before after texts (Err (stops.Refused message)) loaded due besides =
      let of : ReadOfSome task.limit task.names (Ok texts) = loaded_of_some task.limit before.files task.names texts loaded in
      record {
        known = refusal_known before.files texts message.items loaded due;
        some = record {
          inputs = of.inputs;
          some = of.some;
          holds = due_of_read of.inputs (Ok texts) (refused message.items) of.is due;
        };
      }
  made A before after texts (Err stops.NoMemory) loaded due besides = tt

  -- what stops the reading is due
  large_known : (known : Option Files) (file message : List ℕ) → message ≡ said.refusal_message refusal.K0 (Some file)
      → IfSome known (λ files. texts_in task.limit (inputs_of files task.names) ≡ Err (too_large file))
      → IfSome known (λ files. IsDue task files (refused message))
  large_known None file message is h = tt
  large_known (Some files) file message is h =
      due_of_read (inputs_of files task.names) (Err (too_large file)) (refused message) h (ap refused is)

  pub stopped : (before after : FolderSeen) (stop : Stop) → StopsLoading task.limit before after task.names stop
      → StopsTask task before after stop
  stopped before after (stops.ReadFault message) stop = stop
  stopped before after (stops.Refused message) stop =
      let of : ReadOfSome task.limit task.names (Err (too_large (get_or task.names stop.place []))) =
      large_of_some task.limit task.names stop.place [] stop.named in
      record {
        known = large_known before.files (get_or task.names stop.place []) message.items stop.said stop.stops;
        some = record {
          inputs = of.inputs;
          some = of.some;
          holds = due_of_read of.inputs (Err (too_large (get_or task.names stop.place [])))
              (refused message.items) of.is (ap refused stop.said);
        };
      }
  stopped before after stops.NoMemory stop = tt
