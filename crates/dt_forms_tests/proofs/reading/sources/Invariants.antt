use Rattle.std.proofs.Common.{◌≡◌, vec_len}
use Rattle.dt_forms.specs.Sources.{AreSources}
use Rattle.dt_forms_tests.proofs.reading.sources.Given as goal

abbrev pub invariant-loop-text : goal.invariant-loop-text
invariant-loop-text l = record {
  sources : AreSources l.files.items;
  count : vec_len l.files ≡ l.text-index;
}
