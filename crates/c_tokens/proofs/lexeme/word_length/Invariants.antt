-- Name bytes stand before the place.
use Rattle.std.proofs.Common.{◌≤◌, ◌-◌, length, take}
use Rattle.c_tokens.specs.Bytes.{Letters}
use Rattle.c_tokens.proofs.lexeme.word_length.Given as goal

abbrev pub invariant-loop-at : goal.invariant-loop-at
invariant-loop-at l =
    record {
      within : l.at ≤ length l.text;
      letters : Letters (take l.at l.text);
    }

abbrev pub decreases-loop-at : goal.decreases-loop-at
decreases-loop-at l = length l.text - l.at
