use Rattle.std.proofs.Common.{◌≡◌, ◌<◌, ℕ, false, get_or}
use Rattle.dt_lines.specs.Lines.{is_comment_mark}
use Rattle.dt_lines.proofs.token.comment_start.Given as goal

abbrev pub invariant-loop-at : goal.invariant-loop-at
invariant-loop-at l = (k : ℕ) → k < l.at → is_comment_mark (get_or l.text k 0) ≡ false
