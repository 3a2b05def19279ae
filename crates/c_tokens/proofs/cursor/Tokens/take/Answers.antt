use Rattle.std.proofs.Common.{◌≡◌, ◌≤◌, ◌+◌, ◌∙◌, sym, length, arith}
use Rattle.std.proofs.lemmas.List.{length-map}
use Rattle.c_tokens.specs.View.{token_seen, tokens_seen}
use Rattle.c_tokens.proofs.Runs.{begins_none, take_some, take_fits}
use Rattle.c_tokens.proofs.cursor.Tokens.take.Goals as goal

pub returns-then-not-begins : goal.returns-then-not-begins
returns-then-not-begins c = sym (begins_none (tokens_seen c.args.fixed.now) c.args.self.now (sym c.begins.ensures ∙ c.if-not-begins.true))

pub invariant_of-self : goal.invariant_of-self
invariant_of-self c =
    let all = c.self.inside.all.now in
    let many : length (tokens_seen all) ≡ length all = length-map all token_seen in
    let fixed : length (tokens_seen c.args.fixed.now) ≡ length c.args.fixed.now = length-map c.args.fixed.now token_seen in
    let within : c.self.inside.at ≤ length all = c.self.invariant in
    let fits : c.self.inside.at + length c.args.fixed.now ≤ length (tokens_seen all) = take_fits (tokens_seen all) c.args.self.now (tokens_seen c.args.fixed.now) c.self.inside.at (length c.args.fixed.now) (omega arith) c.self.view_is fixed (sym c.begins.ensures ∙ c.if-not-begins.false) in
    let done : c.self.inside.at + length c.args.fixed.now ≤ length all = omega arith in
    done

pub returns : goal.returns
returns c = take_some (tokens_seen c.self.inside.all.now) c.args.self.now (tokens_seen c.args.fixed.now) c.self.inside.at (length c.args.fixed.now) c.self.view_is (length-map c.args.fixed.now token_seen) (sym c.begins.ensures ∙ c.if-not-begins.false)
