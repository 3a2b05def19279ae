use Rattle.std.proofs.Common.{sym, ap, length, arith}
use Rattle.std.proofs.lemmas.List.Sums.{position_or_len_is}
use Rattle.dt_lines.specs.Lines.{is_comment_mark}
use Rattle.dt_lines.proofs.token.comment_start.Goals as goal

pub returns-then-text-at-eq35-clause-place : goal.returns-then-text-at-eq35-clause-place
returns-then-text-at-eq35-clause-place c = sym (position_or_len_is is_comment_mark c.args.text.now c.loop-at.at 0 (omega arith) c.loop-at.invariant (λ _. ap is_comment_mark c.if-text-at-eq35.true))

pub returns-clause-place : goal.returns-clause-place
returns-clause-place c = sym (position_or_len_is is_comment_mark c.args.text.now (length c.args.text.now) 0 (omega arith) (λ k h. c.loop-at.invariant k (omega arith)) (λ h. absurd (omega arith)))
