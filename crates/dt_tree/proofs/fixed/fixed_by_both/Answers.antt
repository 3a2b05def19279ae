use Rattle.std.proofs.Common.{arith, refl}
use Rattle.dt_tree.proofs.BothFixed.{join_is}
use Rattle.dt_tree.proofs.fixed.fixed_by_both.Goals as goal

pub returns : goal.returns
returns c = join_is _ _ _ _ (omega arith) (omega arith) (omega arith) refl refl
