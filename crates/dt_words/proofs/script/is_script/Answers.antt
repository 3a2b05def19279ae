-- A script can be read where each item can.
use Rattle.std.proofs.Common.{◌≡◌, is_some, lit<, rules, sym}
use Rattle.std.specs.List.{list_all}
use Rattle.std.proofs.lemmas.Iterator.Search.{all_from_yields_List}
use Rattle.std.proofs.lemmas.Iterator.Splits.{YieldsList-from_str_split}
use Rattle.dt_words.specs.Scripts as meant
use Rattle.dt_words.proofs.ScriptItems.{is_read}
use Rattle.dt_words.proofs.script.is_script.Goals as goal

pub returns-else-eq : goal.returns-else-eq
returns-else-eq c =
    let each : c.all.result ≡ list_all (λ text. is_some (meant.item_of text)) (meant.item_texts c.args.text.now) =
    all_from_yields_List (λ text. is_some (meant.item_of text)) _ _ c.all.result c.all.ensures.ran
    (YieldsList-from_str_split 44 c.args.text.now (lit< tt) c.split.ensures.text c.split.ensures.has_more c.split.ensures.pattern)
    (λ x b q called. search rules) in
    is_read c.args.text.now c.all.result (sym c.if-eq.ensures) each
