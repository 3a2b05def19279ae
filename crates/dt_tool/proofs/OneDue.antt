-- Exactly one thing is due.
use Rattle.std.proofs.Common.{◌≡◌, ℕ, List, [], get_or, Result, Ok, Err, refl, ap, sym, ◌∙◌}
use Rattle.dt_io.specs.Files.{Files}
use Rattle.dt_model.specs.declared.options.Options.{Options}
use Rattle.dt_verdict.proofs.OneVerdict.{one_verdict, some_verdict}
use Rattle.c_subset.proofs.OneReading.{one_reading, some_reading}
use Rattle.dt_tool.specs.Due.{Asked, due_of_verdict, IsDueOfFiles, gen_task}
use Rattle.dt_tool.specs.Evaluations.{Evaluation, due_of_reading, IsDueOfCText, eval_task}
use Rattle.dt_tool.specs.Inputs.{Unread, inputs_of, texts_in}
use Rattle.dt_tool.specs.Tasks.{Due, Task, due_of_unread, IsDue, IsDueOfTexts}

of_files : (options : Options) (names texts : List (List ℕ)) (one other : Due) → IsDueOfFiles options names texts one
    → IsDueOfFiles options names texts other → one ≡ other
of_files options names texts one other h k =
    sym h.due ∙ ap (due_of_verdict options names texts)
    (one_verdict options texts h.verdict k.verdict h.stands k.stands) ∙ k.due

-- what is due for each list of texts is one
abbrev pub IsOnce : Task → Type 0
IsOnce task = (texts : List (List ℕ)) (one other : Due) → task.due texts one → task.due texts other → one ≡ other

of_texts : (task : Task) → IsOnce task → (read : Result (List (List ℕ)) Unread) (one other : Due)
    → IsDueOfTexts task read one → IsDueOfTexts task read other → one ≡ other
of_texts task once (Err unread) one other h k = h ∙ sym k
of_texts task once (Ok texts) one other h k = once texts one other h k

pub one_due : (task : Task) → IsOnce task → (files : Files) (one other : Due) → IsDue task files one
    → IsDue task files other → one ≡ other
one_due task once files one other h k = of_texts task once (texts_in task.limit (inputs_of files task.names)) one other h k

-- and there is one
abbrev pub IsSome : Task → Type 0
IsSome task = (texts : List (List ℕ)) → (what : Due) × task.due texts what

some_of_texts : (task : Task) → IsSome task → (read : Result (List (List ℕ)) Unread)
    → (what : Due) × IsDueOfTexts task read what
some_of_texts task some (Err unread) = (due_of_unread unread, refl)
some_of_texts task some (Ok texts) = some texts

pub some_due : (task : Task) → IsSome task → (files : Files) → (what : Due) × IsDue task files what
some_due task some files = some_of_texts task some (texts_in task.limit (inputs_of files task.names))

pub gen_once : (asked : Asked) → IsOnce (gen_task asked)
gen_once asked texts one other h k = of_files asked.options asked.names texts one other h k

pub gen_some : (asked : Asked) → IsSome (gen_task asked)
gen_some asked texts =
    let v = some_verdict asked.options texts in
    (due_of_verdict asked.options asked.names texts v.0, record { verdict = v.0; stands = v.1; due = refl })

-- what is due of a C text is one, and there is one
of_text : (e : Evaluation) (text : List ℕ) (one other : Due) → IsDueOfCText e text one → IsDueOfCText e text other
    → one ≡ other
of_text e text one other h k =
    sym h.due ∙ ap (due_of_reading e) (one_reading text h.reading k.reading h.stands k.stands) ∙ k.due

pub eval_once : (e : Evaluation) → IsOnce (eval_task e)
eval_once e texts one other h k = of_text e (get_or texts 0 []) one other h k

pub eval_some : (e : Evaluation) → IsSome (eval_task e)
eval_some e texts =
    let r = some_reading (get_or texts 0 []) in
    (due_of_reading e r.0, record { reading = r.0; stands = r.1; due = refl })
