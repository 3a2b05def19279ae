use Rattle.std.proofs.Common.{◌≡◌, drop}
use Rattle.dt_fields.specs.SetLines.{empty_set, set_of, set_token_faults, set_with_tokens}
use Rattle.dt_fields.specs.TokenView.{set_of_draft}
use Rattle.dt_fields.specs.View.{texts_at}
use Rattle.dt_fields.proofs.set_lines.read_set.Given as goal

abbrev pub invariant-loop-token : goal.invariant-loop-token
invariant-loop-token l = record {
  set : set_with_tokens (set_of_draft l.draft) (texts_at l.source (drop l.token-index l.tokens)) ≡ set_of l.fn.name (texts_at l.source l.tokens);
  faults : set_token_faults (set_of_draft l.draft) (texts_at l.source (drop l.token-index l.tokens)) ≡ set_token_faults (empty_set l.fn.name) (texts_at l.source l.tokens);
}
