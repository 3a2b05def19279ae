use Rattle.std.proofs.Common.{arith, refl}
use Rattle.c_subset.proofs.NamesApart.{distinct_more, all_taken}
use Rattle.c_subset.proofs.differ.all_distinct.Goals as goal

pub loop-set-preserved : goal.loop-set-preserved
loop-set-preserved c =
    let here = c.in_ok-has_distinct_arguments.ensures.0 c.if-not-branch.false in
    distinct_more _ _ _ (omega arith) c.set-item.is c.loop-set.invariant here

pub returns : goal.returns
returns c = (λ _. all_taken _ _ (omega arith) c.loop-set.invariant, λ _. refl)
