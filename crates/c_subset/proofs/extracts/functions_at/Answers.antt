use Rattle.std.proofs.Common.{◌≡◌, List, ◌++◌, ◌∷◌, [], map, sym, ap, subst, ◌∙◌}
use Rattle.std.proofs.lemmas.List.{map-append}
use Rattle.c_tokens.proofs.Loops.{Reading, reading_more, reading_last, reading_fails}
use Rattle.c_subset.specs.DeclarationViews.{function_seen}
use Rattle.c_subset.specs.ExtractParsing.{Function, starts_function, function_at}
use Rattle.c_subset.proofs.ExtractsRead.{function_shorter}
use Rattle.c_subset.proofs.extracts.functions_at.Goals as goal

pub more-smaller : goal.more-smaller
more-smaller c =
    function_shorter c.more.tokens (function_seen c.in-Ok.function) c.function_at.new.tokens c.in-Ok.ensures

pub more-preserved : goal.more-preserved
more-preserved c =
    let x = function_seen c.in-Ok.function in
    let rest = c.function_at.new.tokens in
    let starts = sym c.starts_function.ensures ∙ c.more-test.true in
    let less = function_shorter c.more.tokens x rest c.in-Ok.ensures in
    let r = reading_more x rest c.more.invariant starts c.in-Ok.ensures less in
    let pushed : map function_seen c.push.new.self.items ≡ map function_seen c.more.functions.items ++ x ∷ [] =
    ap (map function_seen) c.in_ok-push-in-Ok.ensures.items ∙ map-append function_seen _ _ in
    let Goes : List Function → Type 0 = λ items. Reading starts_function function_at c.args.tokens.now items rest in
    subst Goes (sym pushed) r

pub returns-in-Err : goal.returns-in-Err
returns-in-Err c =
    reading_fails c.in-Err.fault c.more.invariant (sym c.starts_function.ensures ∙ c.more-test.true) c.in-Err.ensures

pub returns : goal.returns
returns c = reading_last c.more.invariant (sym c.starts_function.ensures ∙ c.more-test.false)
