use Rattle.std.proofs.Common.{◌∙◌, sym, ap, option_map, List, ℕ}
use Rattle.c_tokens.specs.Tokens.{Token}
use Rattle.c_tokens.specs.View.{tokens_seen}
use Rattle.c_tokens.specs.Parsing.{first_word}
use Rattle.c_tokens.proofs.Runs.{word_some}
use Rattle.c_tokens.proofs.cursor.Tokens.word.Goals as goal

pub returns : goal.returns
returns c = word_some (tokens_seen c.self.inside.all.now) c.args.self.now c.self.inside.at c.in_ok-word.word.now c.self.view_is (ap (λ ts. option_map (λ (x : List ℕ × List Token). x.0) (first_word ts)) (sym c.rest.ensures) ∙ sym c.in_ok-word.ensures)
