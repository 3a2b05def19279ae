-- Low bits are taken by a mask.
use Rattle.dt_values.proofs.Parts.{low_mask}
use Rattle.dt_values.proofs.bits.low_bits.Goals as goal

pub returns : goal.returns
returns c = low_mask c.args.v c.args.length c.requires.inside
