-- The old bits go out, and the new ones in.
use Rattle.std.proofs.Common.{◌≤◌, arith}
use Rattle.dt_values.proofs.Parts.{at_most_64, deposit_below, deposit_fits, deposit_is}
use Rattle.dt_values.proofs.bits.deposit.Goals as goal

pub overflow_add-result : goal.overflow_add-result
overflow_add-result c =
    let a = c.args in
    record { fits = deposit_fits a.n a.v a.start a.length a.f _ _ (at_most_64 a.n c.requires.size) c.requires.word c.requires.inside c.extract.ensures c.low_bits.ensures }

pub returns-clause-value : goal.returns-clause-value
returns-clause-value c =
    let a = c.args in
    let most : a.n ≤ 64 = at_most_64 a.n c.requires.size in
    deposit_is a.v a.start a.length a.f _ _ (omega arith) c.extract.ensures c.low_bits.ensures

pub returns-clause-word : goal.returns-clause-word
returns-clause-word c =
    let a = c.args in
    deposit_below a.n a.v a.start a.length a.f _ _ (at_most_64 a.n c.requires.size) c.requires.word c.requires.inside c.extract.ensures c.low_bits.ensures
