use Rattle.std.proofs.Common.{◌≡◌, List, ◌++◌, ◌∷◌, [], map, sym, ap, subst, ◌∙◌}
use Rattle.std.proofs.lemmas.List.{map-append}
use Rattle.c_tokens.proofs.Loops.{gives_err}
use Rattle.c_subset.specs.Programs.{Pattern}
use Rattle.c_subset.specs.View.{pattern_of, prefix_seen}
use Rattle.c_subset.specs.PatternParsing.{starts_pattern, pattern_at}
use Rattle.c_subset.proofs.PatternsRead.{pattern_shorter}
use Rattle.c_subset.proofs.ReadLoops.{ReadingBehind, behind_more, behind_last, behind_fails}
use Rattle.c_subset.proofs.patterns.patterns_behind.Goals as goal

pub returns-in_err-pattern_at : goal.returns-in_err-pattern_at
returns-in_err-pattern_at c =
    let e = c.in_err-pattern_at.field-0.0 in
    let starts = sym c.starts_pattern.ensures ∙ c.more-test.true in
    let fails = behind_fails e c.more.invariant starts c.in_err-pattern_at.ensures in
    gives_err _ _ e _ c.from_residual-in_err-pattern_at.ensures.1 fails

pub more-smaller : goal.more-smaller
more-smaller c =
    pattern_shorter (prefix_seen c.args.prefix.now) c.more.tokens (pattern_of c.in_ok-pattern_at.field-0)
    c.pattern_at.new.tokens c.in_ok-pattern_at.ensures

pub more-preserved : goal.more-preserved
more-preserved c =
    let prefix = prefix_seen c.args.prefix.now in
    let x = pattern_of c.in_ok-pattern_at.field-0 in
    let rest = c.pattern_at.new.tokens in
    let starts = sym c.starts_pattern.ensures ∙ c.more-test.true in
    let less = pattern_shorter prefix c.more.tokens x rest c.in_ok-pattern_at.ensures in
    let r = behind_more x rest c.more.invariant starts c.in_ok-pattern_at.ensures less in
    let pushed : map pattern_of c.push-in-more.new.self.items ≡ map pattern_of c.more.patterns.items ++ x ∷ [] =
    ap (map pattern_of) c.in_ok-push-2.ensures.items ∙ map-append pattern_of _ _ in
    let Goes : List Pattern → Type 0 = λ items.
    ReadingBehind (pattern_of c.args.first ∷ []) starts_pattern (pattern_at prefix) c.args.tokens.now items rest in
    subst Goes (sym pushed) r

pub returns : goal.returns
returns c = behind_last c.more.invariant (sym c.starts_pattern.ensures ∙ c.more-test.false)
