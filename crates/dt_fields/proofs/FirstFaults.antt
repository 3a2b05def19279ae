-- The first of a line's faults.
use Rattle.std.proofs.Common.{◌≡◌, ℕ, List, [], ◌∷◌, ◌++◌, Some}
use Rattle.dt_fields.specs.declared.fault.DefFault.{DefFault}
use Rattle.dt_fields.specs.declared.fault.DefFault.TheVariants as faults
use Rattle.dt_fields.specs.Faults.{Broken, first}
use Rattle.dt_fields.specs.View.{DefBroken}

first_prefix : (rules more : List Broken) (b : Broken) → first rules ≡ Some b → first (rules ++ more) ≡ Some b
first_prefix [] more b h = absurd (cc)
first_prefix (f ∷ rules) more b h = h

-- the first of some faults is the first of those with more behind them
pub broken_prefix : (bytes : List ℕ) (fault : DefFault) (rules more : List Broken) → DefBroken bytes fault rules → DefBroken bytes fault (rules ++ more)
broken_prefix bytes (faults.Broken rule detail) rules more h = record { is_first = first_prefix rules more _ h.is_first; within = h.within }
broken_prefix bytes faults.NoMemory rules more h = tt
