-- What is due for `eval` over a C text, whatever the outside does (docs/COMMANDS.md, "Outcomes" and "Rules").
use Rattle.std.specs.Prelude.{ℕ, ◌≡◌, ◌^◌, Bool, not, nat_lt, List, [], ◌∷◌, get_or, map, Option, Some, None}
use Rattle.std.specs.Prelude.{find, if◌then◌else◌}
use Rattle.dt_values.specs.declared.set.SetDef.{SetDef}
use Rattle.std.specs.List.{list_any}
use Rattle.dt_host.specs.Hosts.{Answer}
use Rattle.dt_values.specs.Types.{is_text}
use Rattle.dt_values.specs.Widths.{width_bits}
use Rattle.c_subset.specs.Programs.{Name, Pattern, Program}
use Rattle.c_subset.specs.Readings.{Reading, too_deep, not_subset, of_program, IsReading}
use Rattle.dt_tool.specs.declared.refusal.Refusal.TheVariants as refusal
use Rattle.dt_tool.specs.Messages as said
use Rattle.dt_tool.specs.RunTexts.{run_text}
use Rattle.dt_tool.specs.Tasks.{Due, refused, written, Task}
use Rattle.dt_tool.specs.declared.evaluate.TheConstants.{LARGEST_C_TEXT}

-- what `eval` is asked for: the run of the text in the file of this name at a word, which was given so, with a script of
-- these outcomes and answers
pub record Evaluation : Type 0 where
  pub text : List ℕ
  pub word : ℕ
  pub given : List ℕ
  pub outcomes : List Bool
  pub answers : List Answer

-- a set has this name
abbrev pub is_declared : List SetDef → Name → Bool
is_declared sets name = list_any (λ s. is_text name s.name) sets

-- the set of the first pattern whose set isn't one of these
abbrev pub first_undeclared : List SetDef → List Pattern → Option Name
first_undeclared sets patterns = find (λ set. not (is_declared sets set)) (map (λ p. p.set) patterns)

-- the set of the first pattern whose set the text doesn't declare
abbrev pub undeclared_set : Program → Option Name
undeclared_set program = first_undeclared program.sets program.patterns

-- the word has no more bits than the text's words have
abbrev pub due_of_word : Evaluation → Program → Due
due_of_word e program =
    if nat_lt e.word (2 ^ width_bits program.width)
    then written (run_text e.outcomes e.answers program e.word)
    else refused (said.refusal_message refusal.E1 (Some e.given))

abbrev pub due_of_program : Evaluation → Program → Due
due_of_program e program = unless_undeclared (undeclared_set program)
  where
    unless_undeclared : Option Name → Due
    unless_undeclared None = due_of_word e program
    unless_undeclared (Some set) = refused (said.refusal_message refusal.E2 (Some set))

abbrev pub due_of_reading : Evaluation → Reading → Due
due_of_reading e too_deep = refused (said.refusal_message refusal.C2 None)
due_of_reading e not_subset = refused (said.refusal_message refusal.C1 None)
due_of_reading e (of_program program) = due_of_program e program

-- what is due for this C text
pub record IsDueOfCText (e : Evaluation) (text : List ℕ) (what : Due) : Type 0 where
  pub reading : Reading
  pub stands : IsReading text reading
  pub due : due_of_reading e reading ≡ what

-- as a task: one file, whose run is written to standard output
abbrev pub eval_task : Evaluation → Task
eval_task e = record {
  names = e.text ∷ [];
  limit = LARGEST_C_TEXT;
  output = None;
  due = λ texts. IsDueOfCText e (get_or texts 0 []);
  besides = λ texts text. Unit {0};
}
