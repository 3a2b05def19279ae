use Rattle.std.proofs.Common.{◌++◌, ap}
use Rattle.std.proofs.lemmas.List.{drop-replicate}
use Rattle.dt_values.specs.declared.name.TheConstants.{LONGEST_NAME}
use Rattle.dt_values.proofs.name.name_array.Goals as goal

pub returns : goal.returns
returns c = rw c.copy_from_slice.ensures.after (ap (λ xs. c.args.bytes.now ++ xs) (drop-replicate _ LONGEST_NAME _))
