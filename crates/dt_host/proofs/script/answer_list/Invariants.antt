use Rattle.std.proofs.Common.{◌≡◌, take}
use Rattle.std.specs.Prelude.{All}
use Rattle.dt_host.specs.Scripts.{IsWithin}
use Rattle.dt_host.proofs.script.answer_list.Given as goal

abbrev pub invariant-loop-answer : goal.invariant-loop-answer
invariant-loop-answer l = record {
  same : l.list.items ≡ take l.answer-index l.answers;
  within : All IsWithin l.list.items;
}
