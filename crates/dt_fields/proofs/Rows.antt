-- Rows of rules of which none is broken.
use Rattle.std.proofs.Common.{◌≡◌, ℕ, ◌+◌, ◌≤◌, Bool, true, false, List, [], ◌∷◌, ◌++◌, refl, arith}
use Rattle.std.specs.Prelude.{nat_le}
use Rattle.std.proofs.lemmas.Bool.Decides.{nat_tests}
use Rattle.dt_fields.specs.Faults.{Broken, where_broken}

-- of two lists of rules of which none is broken, neither has one
pub prefix_empty : (a b : List Broken) → a ++ b ≡ [] → a ≡ []
prefix_empty [] b h = refl
prefix_empty (x ∷ a) b h = absurd (cc)

pub rest_empty : (a b : List Broken) → a ++ b ≡ [] → b ≡ []
rest_empty [] b h = h
rest_empty (x ∷ a) b h = absurd (cc)

-- a first row that isn't broken, and those behind it
pub row_unbroken : (test : Bool) (b : Broken) (more : List Broken) → where_broken test b ++ more ≡ [] → (test ≡ false) × (more ≡ [])
row_unbroken true b more h = absurd (cc)
row_unbroken false b more h = (refl, h)

-- a last row
pub last_unbroken : (test : Bool) (b : Broken) → where_broken test b ≡ [] → test ≡ false
last_unbroken true b h = absurd (cc)
last_unbroken false b h = refl

-- a limit that isn't reached leaves room for one more
pub one_more : (most n m : ℕ) → m ≡ n + 1 → nat_le most n ≡ false → m ≤ most
one_more most n m is h = grind (arith, nat_tests)
