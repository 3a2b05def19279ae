use Rattle.std.proofs.Common.{◌≡◌, drop, map}
use Rattle.std.specs.List.{list_any}
use Rattle.dt_values.specs.Types.{is_text}
use Rattle.dt_fields.proofs.number.is_one_of.Given as goal

abbrev pub invariant-loop-word : goal.invariant-loop-word
invariant-loop-word l = list_any (is_text l.text) (map (λ word. word.now) (drop l.word-index l.words)) ≡ list_any (is_text l.text) (map (λ word. word.now) l.words)
