use Rattle.std.proofs.Common.{◌≡◌, []}
use Rattle.dt_forms.specs.FileLines.{all_lines}
use Rattle.dt_forms.specs.Rules.{after_lines, faults_of_files, scope_before}
use Rattle.dt_scope.specs.Scope.{nothing_defined}
use Rattle.dt_forms.specs.View.{texts_of}
use Rattle.dt_forms.proofs.ReadFiles.{lines_from, texts_from}
use Rattle.dt_forms.proofs.reader.read_each.Given as goal

abbrev pub invariant-loop-place : goal.invariant-loop-place
invariant-loop-place l = record {
  closed : l.scope.groups ≡ [];
  after : after_lines l.options l.scope (lines_from l.files l.place)
      ≡ scope_before l.options (all_lines (texts_of l.files));
  faults : faults_of_files l.options l.scope l.place (texts_from l.files l.place)
      ≡ faults_of_files l.options nothing_defined 0 (texts_of l.files);
}
