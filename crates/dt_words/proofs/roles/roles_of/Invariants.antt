-- What the words so far are, and then what the rest is, is what all of them are.
use Rattle.std.proofs.Common.{◌≡◌, ◌++◌, drop, length, map}
use Rattle.dt_words.specs.Roles as meant
use Rattle.dt_words.specs.View.{next_seen, role_seen, row_seen, texts}
use Rattle.dt_words.proofs.roles.roles_of.Given as goal

abbrev pub invariant-loop-word : goal.invariant-loop-word
invariant-loop-word l =
    record {
      count : length l.roles.items ≡ l.word-index;
      seen : map role_seen l.roles.items ++ meant.roles_of (map row_seen l.rows) (next_seen l.next)
          (texts (drop l.word-index l.words))
          ≡ meant.roles_of (map row_seen l.rows) meant.Anything (texts l.words);
    }
