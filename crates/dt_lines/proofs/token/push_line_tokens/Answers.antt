use Rattle.std.proofs.Common.{◌≡◌, ◌∙◌, ◌+◌, ◌++◌, ap, map, false, true, get_or, arith}
use Rattle.std.specs.List.{between}
use Rattle.dt_lines.specs.Lines.{is_white, before_comment, tokens_from}
use Rattle.dt_lines.specs.Gathering.{piece_at}
use Rattle.dt_lines.proofs.Pieces.{none_more, none_yet, tokens_more, tokens_end, before_comment_at}
use Rattle.dt_lines.proofs.SoFar.{spans_later}
use Rattle.dt_lines.proofs.token.push_line_tokens.Goals as goal

pub loop-at-preserved-then-not-is_white : goal.loop-at-preserved-then-not-is_white
loop-at-preserved-then-not-is_white c =
    let other : is_white (get_or c.args.bytes.now c.loop-at.at 0) ≡ false = cc in
    record {
      from = c.loop-at.invariant.from;
      start = omega arith;
      word = none_more is_white c.args.bytes.now c.loop-at.start c.loop-at.at 0 c.loop-at.invariant.start (omega arith) c.loop-at.invariant.word other;
      tokens = c.loop-at.invariant.tokens;
      spans = c.loop-at.invariant.spans;
    }

pub loop-at-preserved : goal.loop-at-preserved
loop-at-preserved c =
    let white : is_white (get_or c.args.bytes.now c.loop-at.at 0) ≡ true = cc in
    record {
      from = omega arith;
      start = omega arith;
      word = none_yet is_white c.args.bytes.now _;
      tokens = tokens_more c.args.bytes.now c.loop-at.start c.loop-at.at _ 0 _ _ c.loop-at.invariant.start (omega arith) (omega arith) c.loop-at.invariant.word white c.in_ok-push_span.ensures.tokens ∙ c.loop-at.invariant.tokens;
      spans = spans_later _ (omega arith) c.in_ok-push_span.ensures.spans;
    }

pub returns-clause-tokens : goal.returns-clause-tokens
returns-clause-tokens c =
    let whole : between c.args.from (c.args.from + c.comment_start.result) c.args.bytes.now ≡ before_comment (between c.args.from c.args.to c.args.bytes.now) = before_comment_at c.args.bytes.now c.args.from c.args.to c.comment_start.result c.requires.ordered c.requires.within c.comment_start.ensures.within c.comment_start.ensures.place in
    tokens_end c.args.bytes.now c.loop-at.start c.loop-at.at _ _ _ _ (omega arith) (omega arith) c.loop-at.invariant.word c.loop-at.invariant.tokens c.in_ok-push_span-2.ensures.tokens
    ∙ ap (λ text. map (piece_at c.args.bytes.now) c.args.spans.now.items ++ tokens_from c.args.from text) whole
