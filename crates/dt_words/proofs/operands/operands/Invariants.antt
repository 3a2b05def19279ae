-- The operands so far, and then those of the rest.
use Rattle.std.proofs.Common.{◌≡◌, ◌++◌, drop, map}
use Rattle.dt_words.specs.Operands as meant
use Rattle.dt_words.specs.View.{role_seen}
use Rattle.dt_words.proofs.operands.operands.Given as goal

abbrev pub invariant-loop-role : goal.invariant-loop-role
invariant-loop-role l = l.operands.items ++ meant.operands
    (map role_seen (drop l.role-index l.roles)) ≡ meant.operands (map role_seen l.roles)
