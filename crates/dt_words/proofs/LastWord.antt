-- The last word.
use Rattle.std.proofs.Common.{◌≡◌, ℕ, ◌+◌, ◌<◌, nat_eq, List, length, map, drop, arith}
use Rattle.std.proofs.lemmas.Bool.Decides.{nat_tests}
use Rattle.std.proofs.lemmas.Grind.{common_steps}
use Rattle.dt_words.specs.declared.roles.Role.{Role}
use Rattle.dt_words.specs.View.{role_seen}

pub last_here : (roles : List Role) (i : ℕ) → i < length roles
    → nat_eq (i + 1) (length roles) ≡ nat_eq (length (map role_seen (drop (i + 1) roles))) 0
last_here roles i h = grind (arith, nat_tests, common_steps)
