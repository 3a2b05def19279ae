-- The first faulty word is among the rest.
use Rattle.std.proofs.Common.{◌≡◌, ◌+◌, ◌≤◌, drop, map}
use Rattle.dt_words.specs.Faults as meant
use Rattle.dt_words.specs.View.{role_seen}
use Rattle.dt_words.proofs.faults.first_fault.Given as goal

abbrev pub invariant-loop-role : goal.invariant-loop-role
invariant-loop-role l =
    record {
      place : l.place ≡ l.role-index + 1;
      operands : l.operands ≤ l.role-index;
      rest : meant.first_fault l.verb l.place l.operands
          (map role_seen (drop l.role-index l.roles)) ≡ meant.first_fault l.verb 1 0 (map role_seen l.roles);
    }
