-- What is due for `gen` over files, whatever the outside does (docs/COMMANDS.md, "Outcomes" and "Rules").
use Rattle.std.specs.Prelude.{ℕ, ◌≡◌, List, Option}
use Rattle.dt_fields.specs.declared.rule.Rule.TheVariants as rule
use Rattle.dt_forms.specs.Models.{definitions_of}
use Rattle.dt_lines.specs.declared.limits.TheConstants.{LARGEST_FILE}
use Rattle.dt_model.specs.declared.options.Options.{Options}
use Rattle.dt_verdict.specs.Verdicts.{Verdict, kept, broken, empty_group, overlapping, IsVerdict}
use Rattle.c_writer.specs.Layout.{layout}
use Rattle.c_writer.specs.Parts.{parts_of}
use Rattle.dt_tool.specs.Decoders.{IsDecoderOf}
use Rattle.dt_tool.specs.Messages as said
use Rattle.dt_tool.specs.Tasks.{Due, refused, written, Task}

-- what `gen` is asked for: the C text of the pattern files of these names, in order, with these options, for standard
-- output or a file of this name
pub record Asked : Type 0 where
  pub options : Options
  pub output : Option (List ℕ)
  pub names : List (List ℕ)

-- the C text of files
abbrev pub text_of : Options → List (List ℕ) → List ℕ
text_of options texts = layout (parts_of options (definitions_of options texts))

abbrev pub due_of_verdict : Options → List (List ℕ) → List (List ℕ) → Verdict → Due
due_of_verdict options names texts kept = written (text_of options texts)
due_of_verdict options names texts (broken fault) = refused (said.fault_message options.width names fault)
due_of_verdict options names texts (empty_group position) = refused (said.entry_message rule.H1 names texts position)
due_of_verdict options names texts (overlapping positions) = refused (said.overlap_message names texts positions)

-- what is due for files of these names and texts
pub record IsDueOfFiles (options : Options) (names texts : List (List ℕ)) (what : Due) : Type 0 where
  pub verdict : Verdict
  pub stands : IsVerdict options texts verdict
  pub due : due_of_verdict options names texts verdict ≡ what

-- as a task: a text that is written decodes what the files say
abbrev pub gen_task : Asked → Task
gen_task asked = record {
  names = asked.names;
  limit = LARGEST_FILE;
  output = asked.output;
  due = IsDueOfFiles asked.options asked.names;
  besides = IsDecoderOf asked.options;
}
