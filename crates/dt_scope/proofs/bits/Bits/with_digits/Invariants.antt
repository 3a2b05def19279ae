use Rattle.std.proofs.Common.{◌≡◌, ◌+◌, drop}
use Rattle.dt_scope.specs.Bits.{AreBitsBelow, with_digits}
use Rattle.dt_scope.proofs.bits.Bits.with_digits.Given as goal

abbrev pub invariant-loop-digit : goal.invariant-loop-digit
invariant-loop-digit l = record {
  bits : with_digits l.bits (drop l.digit-index l.digits) ≡ with_digits l.fn.self l.digits;
  count : l.bits.count ≡ l.fn.self.count + l.digit-index;
  below : AreBitsBelow l.bits;
}
