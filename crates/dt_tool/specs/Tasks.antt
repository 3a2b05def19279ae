-- What a command is asked to do with files that it reads, and what is due for it (docs/COMMANDS.md, "Outcomes").
use Rattle.std.specs.Prelude.{ℕ, ◌≡◌, List, Option, Some, Result, Ok, Err}
use Rattle.dt_io.specs.Files.{Files}
use Rattle.dt_tool.specs.Inputs as inputs
use Rattle.dt_tool.specs.Inputs.{Input, Unread, inputs_of, texts_in}
use Rattle.dt_tool.specs.declared.refusal.Refusal.TheVariants as refusal
use Rattle.dt_tool.specs.Messages as said

-- the input of this name isn't held; a rule is broken, and this is said; this text is written
pub data Due : Type 0 where
  missing : List ℕ → Due
  refused : List ℕ → Due
  written : List ℕ → Due

-- the files that are read, in order, and how many bytes one of them has at most; where a text goes, standard output or the file of this name; what is due for the
-- texts of the files; and what a text that is written is besides
pub record Task : Type 1 where
  pub names : List (List ℕ)
  pub limit : ℕ
  pub output : Option (List ℕ)
  pub due : List (List ℕ) → Due → Type 0
  pub besides : List (List ℕ) → List ℕ → Type 0

-- what is due where the reading stops
abbrev pub due_of_unread : Unread → Due
due_of_unread (inputs.missing name) = missing name
due_of_unread (inputs.too_large name) = refused (said.refusal_message refusal.K0 (Some name))

-- all files are read before a text is looked at
abbrev pub IsDueOfTexts : Task → Result (List (List ℕ)) Unread → Due → Type 0
IsDueOfTexts task (Err unread) what = what ≡ due_of_unread unread
IsDueOfTexts task (Ok texts) what = task.due texts what

abbrev pub IsDueOfInputs : Task → List Input → Due → Type 0
IsDueOfInputs task inputs what = IsDueOfTexts task (texts_in task.limit inputs) what

-- exactly one is due over known files (the laws `law_one_due` and `law_one_evaluation_due`)
abbrev pub IsDue : Task → Files → Due → Type 0
IsDue task files what = IsDueOfInputs task (inputs_of files task.names) what
