use Rattle.std.proofs.Common.{◌≡◌, min, take}
use Rattle.dt_fields.specs.Numbers.{decimal}
use Rattle.dt_fields.specs.declared.number.TheConstants.{LARGEST_NUMBER}
use Rattle.dt_fields.proofs.number.number_of.Given as goal

abbrev pub invariant-loop-digit : goal.invariant-loop-digit
invariant-loop-digit l = l.number ≡ min (decimal (take l.digit-index l.digits)) LARGEST_NUMBER
