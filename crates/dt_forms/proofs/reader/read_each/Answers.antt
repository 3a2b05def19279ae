use Rattle.dt_forms.proofs.ReadFiles.{after_more, closed_more, faults_more}
use Rattle.dt_forms.proofs.reader.read_each.Goals as goal

pub loop-place-preserved : goal.loop-place-preserved
loop-place-preserved c = record {
  closed = closed_more c.args.options.now c.args.files.now c.loop-place.place c.index-files-place.result
      c.loop-place.scope _ c.in-Ok.ensures.kept c.in-Ok.ensures.after;
  after = after_more c.args.options.now c.args.files.now c.loop-place.place c.index-files-place.result _
      c.loop-place.scope _ _ c.loop-place-test.true c.index-files-place.is c.in-Ok.ensures.after
      c.loop-place.invariant.after;
  faults = faults_more c.args.options.now c.args.files.now c.loop-place.place c.index-files-place.result _
      c.loop-place.scope _ _ c.loop-place-test.true c.index-files-place.is c.loop-place.invariant.closed
      c.in-Ok.ensures.kept c.in-Ok.ensures.after c.loop-place.invariant.faults;
}
