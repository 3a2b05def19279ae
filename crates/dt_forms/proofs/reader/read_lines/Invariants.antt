use Rattle.std.proofs.Common.{◌≡◌, drop}
use Rattle.dt_forms.specs.Rules.{after_lines, faults_from}
use Rattle.dt_forms.proofs.ReadLines.{lines_in}
use Rattle.dt_forms.proofs.reader.read_lines.Given as goal

abbrev pub invariant-loop-line : goal.invariant-loop-line
invariant-loop-line l = record {
  after : after_lines l.options l.scope (lines_in l.file l.source (drop l.line-index l.lines))
      ≡ after_lines l.options l.initial.scope (lines_in l.file l.source l.lines);
  faults : faults_from l.options l.scope (lines_in l.file l.source (drop l.line-index l.lines))
      ≡ faults_from l.options l.initial.scope (lines_in l.file l.source l.lines);
}
