use Rattle.std.proofs.Common.{◌≡◌, suc, ◌-◌, sym, ap, subst, ◌∙◌, arith}
use Rattle.c_tokens.specs.Gives.{Fails}
use Rattle.c_tokens.proofs.Exact.{some_is}
use Rattle.c_tokens.proofs.Loops.{gives_err}
use Rattle.c_exprs.specs.View.{term_of}
use Rattle.c_exprs.specs.ExprParsing.{Placed}
use Rattle.c_exprs.proofs.FoldLoops.{around, around_more, around_fails, around_last}
use Rattle.c_exprs.proofs.fold.deposits_at.Goals as goal

pub returns-in_err-pos : goal.returns-in_err-pos
returns-in_err-pos c =
    let e = c.in_err-pos.field-0.0 in
    let n = c.more.left in
    let is : n ≡ suc (n - 1) = omega (arith, c.more-test.true) in
    let made = term_of c.more.whole in
    let fails =
    around_fails c.args.in_decoder c.args.width made n (n - 1) c.more.tokens e c.in_err-pos.ensures is in
    gives_err _ _ e _ c.from_residual.ensures.1 (subst (Fails e) c.more.invariant fails)

pub more-preserved : goal.more-preserved
more-preserved c =
    let n = c.more.left in
    let is : n ≡ suc (n - 1) = omega (arith, c.more-test.true) in
    let x : Placed = (c.in_ok-pos.pos, (c.in_ok-pos.length, term_of c.in_ok-pos.part)) in
    let rest = c.placed_at.new.tokens in
    let made = term_of c.more.whole in
    ap (λ e. around c.args.in_decoder c.args.width e (n - 1) rest) (sym (some_is _ _ c.in_ok-whole.ensures))
    ∙ around_more c.args.in_decoder c.args.width made n (n - 1) c.more.tokens rest x c.in_ok-pos.ensures is
    ∙ c.more.invariant

pub returns : goal.returns
returns c =
    let none : c.more.left ≡ 0 = omega (arith, c.more-test.false) in
    sym c.more.invariant
    ∙ ap (λ n. around c.args.in_decoder c.args.width (term_of c.more.whole) n c.more.tokens) none
    ∙ around_last c.args.in_decoder c.args.width (term_of c.more.whole) c.more.tokens
