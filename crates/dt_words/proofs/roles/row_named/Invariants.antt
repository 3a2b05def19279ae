-- The option is among the rest.
use Rattle.std.proofs.Common.{◌≡◌, drop, map}
use Rattle.dt_words.specs.Roles as meant
use Rattle.dt_words.specs.View.{row_seen}
use Rattle.dt_words.proofs.roles.row_named.Given as goal

abbrev pub invariant-loop-row : goal.invariant-loop-row
invariant-loop-row l = meant.row_named (map row_seen (drop l.row-index l.rows)) l.name ≡ meant.row_named
    (map row_seen l.rows) l.name
