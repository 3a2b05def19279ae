-- The text goes on inside of the comment, behind a star or not.
use Rattle.std.proofs.Common.{◌≡◌, ◌≤◌, ◌-◌, drop, length}
use Rattle.c_tokens.specs.Tokens.{in_comment}
use Rattle.c_tokens.specs.Reading.{reading}
use Rattle.c_tokens.proofs.Lexemes.{comment_mode}
use Rattle.c_tokens.proofs.lexeme.behind_comment.Given as goal

abbrev pub invariant-loop-at : goal.invariant-loop-at
invariant-loop-at l =
    record {
      within : l.at ≤ length l.text;
      same : reading l.text in_comment ≡ reading (drop l.at l.text) (comment_mode l.starred);
    }

abbrev pub decreases-loop-at : goal.decreases-loop-at
decreases-loop-at l = length l.text - l.at
