-- The digits in front of the place are those of the number so far.
use Rattle.std.proofs.Common.{◌≡◌, ◌<◌, ◌^◌, take}
use Rattle.dt_text.specs.Hexadecimal.{hex}
use Rattle.c_tokens.proofs.words.hex_value.Given as goal

abbrev pub invariant-loop-byte : goal.invariant-loop-byte
invariant-loop-byte l =
    record {
      digits : take l.byte-index l.digits ≡ hex l.byte-index l.value;
      below : l.value < 16 ^ l.byte-index;
    }
