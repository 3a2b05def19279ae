-- Hosts that answer alike, as functions.
use Rattle.std.proofs.Common.{◌≡◌}
use mathlib.Core.Path.{fun_ext}
use Rattle.dt_host.specs.Alike.{AreAlike}
use Rattle.dt_host.specs.Hosts.{Host}

pub same_answers : {S T : Type 0} (related : S → T → Type 0) (one : Host S) (other : Host T) → AreAlike related one other → (s : S) (t : T) → related s t
    → one.answer s ≡ other.answer t
same_answers related one other alike s t h = fun_ext (λ function. fun_ext (λ argument. alike.answers s t function argument h))
