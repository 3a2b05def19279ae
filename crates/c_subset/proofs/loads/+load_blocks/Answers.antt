use Rattle.std.proofs.Common.{◌≡◌, List, ℕ, ◌∷◌, [], ◌++◌, map, sym, ap, subst, ◌∙◌}
use Rattle.std.proofs.lemmas.List.{map-append}
use Rattle.c_subset.specs.Programs.{LoadBlock}
use Rattle.c_subset.specs.StmtParsing.{starts_case}
use Rattle.c_subset.specs.LoadParsing.{load_case_at, load_inner_at}
use Rattle.c_subset.specs.ReadView.{load_case_of}
use Rattle.c_tokens.proofs.Loops.{Reading, reading_more, reading_last, reading_fails, gives_err}
use Rattle.c_subset.proofs.LoadsRead.{load_case_shorter}
use Rattle.c_subset.proofs.loads.+load_blocks.Goals as goal

pub load_cases_at-returns-in_err-load_case_at : goal.load_cases_at-returns-in_err-load_case_at
load_cases_at-returns-in_err-load_case_at t c =
    let e = c.in_err-load_case_at.field-0.0 in
    let starts = sym c.starts_case.ensures ∙ c.more-test.true in
    gives_err _ _ e _ c.from_residual.ensures.1 (reading_fails e c.more.invariant starts c.in_err-load_case_at.ensures)

pub load_cases_at-more-smaller : goal.load_cases_at-more-smaller
load_cases_at-more-smaller t c =
    load_case_shorter c.args.width c.args.decoder.now c.args.braces c.more.tokens
    (load_case_of c.in_ok-load_case_at.field-0) c.load_case_at.new.tokens c.in_ok-load_case_at.ensures

pub load_cases_at-more-preserved : goal.load_cases_at-more-preserved
load_cases_at-more-preserved t c =
    let one = load_case_at c.args.width (load_inner_at c.args.width c.args.decoder.now c.args.braces) in
    let x = load_case_of c.in_ok-load_case_at.field-0 in
    let rest = c.load_case_at.new.tokens in
    let starts = sym c.starts_case.ensures ∙ c.more-test.true in
    let read = c.in_ok-load_case_at.ensures in
    let shorter = load_case_shorter c.args.width c.args.decoder.now c.args.braces c.more.tokens x rest read in
    let r = reading_more x rest c.more.invariant starts read shorter in
    let pushed : map load_case_of c.push.new.self.items ≡ map load_case_of c.more.cases.items ++ x ∷ [] =
    ap (map load_case_of) c.in_ok-push.ensures.items ∙ map-append load_case_of _ _ in
    subst (λ (l : List (ℕ × LoadBlock)). Reading starts_case one c.args.tokens.now l rest) (sym pushed) r

pub load_cases_at-returns : goal.load_cases_at-returns
load_cases_at-returns t c = reading_last c.more.invariant (sym c.starts_case.ensures ∙ c.more-test.false)
