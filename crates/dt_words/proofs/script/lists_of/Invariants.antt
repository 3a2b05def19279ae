-- The lists so far, and then those of the rest.
use Rattle.std.proofs.Common.{◌≡◌, drop, map}
use Rattle.std.specs.Option.{option_map}
use Rattle.dt_words.specs.Scripts as meant
use Rattle.dt_words.proofs.ScriptItems.{behind}
use Rattle.dt_words.proofs.script.lists_of.Given as goal

abbrev pub invariant-loop-text : goal.invariant-loop-text
invariant-loop-text l =
    option_map (behind l.outcomes l.answers)
    (meant.all_read (map meant.item_of (map (λ text. text.now) (drop l.text-index l.texts))))
    ≡ option_map meant.lists_of (meant.all_read (map meant.item_of (map (λ text. text.now) l.texts)))
