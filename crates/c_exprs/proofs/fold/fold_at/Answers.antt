use Rattle.std.proofs.Common.{sym, subst}
use Rattle.c_tokens.specs.Gives.{Gives}
use Rattle.c_tokens.proofs.Loops.{gives_err}
use Rattle.c_exprs.specs.View.{term_of}
use Rattle.c_exprs.proofs.FoldLoops.{fold_around, fold_no_segment, fold_no_openings}
use Rattle.c_exprs.proofs.fold.fold_at.Goals as goal

pub returns-in_err-count : goal.returns-in_err-count
returns-in_err-count c =
    let e = c.in_err-count.field-0.0 in
    let fails = fold_no_openings c.args.in_decoder c.args.width c.args.tokens.now e c.in_err-count.ensures in
    gives_err _ _ e _ c.from_residual.ensures.1 fails

pub returns-in_err-first : goal.returns-in_err-first
returns-in_err-first c =
    let e = c.in_err-first.field-0.0 in
    let n = c.in_ok-count.count in
    let fails =
    fold_no_segment c.args.in_decoder c.args.width n c.args.tokens.now c.openings_at.new.tokens e
    c.in_ok-count.ensures c.in_err-first.ensures in
    gives_err _ _ e _ c.from_residual-in_err-first.ensures.1 fails

pub returns : goal.returns
returns c =
    let n = c.in_ok-count.count in
    let same =
    fold_around c.args.in_decoder c.args.width n (term_of c.in_ok-first.first) c.args.tokens.now
    c.openings_at.new.tokens c.segment_at.new.tokens c.in_ok-count.ensures c.in_ok-first.ensures in
    subst (Gives _ c.deposits_at.result) (sym same) c.deposits_at.ensures
