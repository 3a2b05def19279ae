-- The digits behind the place stand for the same number, behind those in front of it.
use Rattle.std.proofs.Common.{◌≡◌, ◌<◌, ◌^◌, drop}
use Rattle.c_tokens.specs.Words.{digits_value}
use Rattle.c_tokens.proofs.words.digits_value.Given as goal

abbrev pub invariant-loop-byte : goal.invariant-loop-byte
invariant-loop-byte l =
    record {
      same : digits_value l.value (drop l.byte-index l.word) ≡ digits_value 0 l.word;
      below : l.value < 2 ^ 64;
    }
