use Rattle.dt_values.specs.declared.set.SetDef.{SetDef}
use Rattle.c_print.specs.Lines.{union_set_line}
use Rattle.c_writer.specs.Uses.{is_among}
use Rattle.c_writer.proofs.Choosing.{puts_passing}
use Rattle.c_writer.proofs.statements.write_union_sets.Goals as goal

pub loop-set-preserved : goal.loop-set-preserved
loop-set-preserved g c =
    puts_passing union_set_line (is_among c.args.used.now.keys) (λ (s : SetDef). s.name) _ _ _
    c.loop-set-test.true c.set-item.is c.loop-set.invariant c.write_union_set_where_used.ensures
