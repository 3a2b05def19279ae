-- The operand is among the rest.
use Rattle.std.proofs.Common.{◌≡◌, ◌+◌, drop, get_or, map}
use Rattle.dt_words.specs.Operands as meant
use Rattle.dt_words.specs.View.{role_seen}
use Rattle.dt_words.proofs.operands.operand_place.Given as goal

abbrev pub invariant-loop-role : goal.invariant-loop-role
invariant-loop-role l =
    record {
      place : l.place ≡ l.role-index + 1;
      rest : get_or (meant.places_from l.place (map role_seen (drop l.role-index l.roles))) l.before 0
          ≡ get_or (meant.operand_places (map role_seen l.roles)) l.n 0;
    }
