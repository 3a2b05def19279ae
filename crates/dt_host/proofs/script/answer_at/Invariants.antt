use Rattle.std.proofs.Common.{◌≡◌, drop, map}
use Rattle.dt_host.specs.Hosts.{answer_at}
use Rattle.dt_host.specs.Scripts.{answer_seen}
use Rattle.dt_host.proofs.script.answer_at.Given as goal

abbrev pub invariant-loop-answer : goal.invariant-loop-answer
invariant-loop-answer l =
    answer_at (map answer_seen (drop l.answer-index l.answers)) l.count l.name l.arg ≡ answer_at (map answer_seen l.answers) l.count l.name l.arg
