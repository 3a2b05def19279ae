-- What becomes of pattern files: they are kept, or refused for what they break first (docs/COMMANDS.md, "Rules").
use Rattle.std.specs.Prelude.{ℕ, ◌≡◌, List, Some, None}
use Rattle.dt_lines.specs.declared.line.Position.{Position}
use Rattle.dt_forms.specs.FileFaults.{first_broken}
use Rattle.dt_forms.specs.Models.{entries_in_files, flat_list}
use Rattle.dt_model.specs.declared.options.Options.{Options}
use Rattle.dt_forms.specs.Rules.{Fault}
use Rattle.dt_tree.specs.EmptyGroups.{IsLeastEmpty}
use Rattle.dt_tree.specs.Refusals.{KeepGroupRules, ShowsFirstKnot}

-- no rule is broken; a line breaks this rule first; the group that opens here is the first that has no entry; the entries
-- at these positions are the first knot
pub data Verdict : Type 0 where
  kept : Verdict
  broken : Fault → Verdict
  empty_group : Position → Verdict
  overlapping : List Position → Verdict

-- groups are looked at where no line of the files breaks a rule
abbrev pub IsVerdict : Options → List (List ℕ) → Verdict → Type 0
IsVerdict options texts kept =
    (first_broken options texts ≡ None) × KeepGroupRules (flat_list options texts) (entries_in_files options texts)
IsVerdict options texts (broken fault) = first_broken options texts ≡ Some fault
IsVerdict options texts (empty_group position) =
    (first_broken options texts ≡ None) × IsLeastEmpty (entries_in_files options texts) position
IsVerdict options texts (overlapping positions) =
    (first_broken options texts ≡ None)
    × ShowsFirstKnot (flat_list options texts) (entries_in_files options texts) positions
