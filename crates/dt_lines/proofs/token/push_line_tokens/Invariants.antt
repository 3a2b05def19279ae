use Rattle.std.proofs.Common.{◌≡◌, ◌≤◌, ◌++◌, length, map, false}
use Rattle.std.specs.Prelude.{All}
use Rattle.std.specs.List.{between}
use Rattle.dt_lines.specs.Lines.{is_white, tokens_from}
use Rattle.dt_lines.specs.Gathering.{piece_at}
use Rattle.dt_lines.specs.SoFar.{AreSpansTo}
use Rattle.dt_lines.proofs.token.push_line_tokens.Given as goal

abbrev pub invariant-loop-at : goal.invariant-loop-at
invariant-loop-at l = record {
  from : l.from ≤ l.start;
  start : l.start ≤ l.at;
  word : All (λ b. is_white b ≡ false) (between l.start l.at l.bytes);
  tokens : map (piece_at l.bytes) l.spans.items ++ tokens_from l.start (between l.start l.end l.bytes) ≡ map (piece_at l.bytes) l.fn.spans.items ++ tokens_from l.from (between l.from l.end l.bytes);
  spans : AreSpansTo (length l.bytes) l.start l.spans.items;
}
