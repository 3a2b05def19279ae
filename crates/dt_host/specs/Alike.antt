-- Hosts that answer alike.
use Rattle.std.specs.Prelude.{◌≡◌, ℕ, ℤ, List, [], ◌∷◌, Option}
use Rattle.dt_host.specs.Hosts.{Call, Host}

-- in any two states of this relation two hosts answer the same, and the relation holds after any call
pub record AreAlike {S T : Type 0} (related : S → T → Type 0) (one : Host S) (other : Host T) : Type 0 where
  pub outcomes : (s : S) (t : T) (c : Call) → related s t → one.outcome s c ≡ other.outcome t c
  pub states : (s : S) (t : T) (c : Call) → related s t → related (one.next s c) (other.next t c)
  pub answers : (s : S) (t : T) (function : List ℕ) (argument : Option ℤ) → related s t
      → one.answer s function argument ≡ other.answer t function argument

-- the state after these calls
abbrev pub state_after : {S : Type 0} → Host S → S → List Call → S
state_after host state [] = state
state_after host state (c ∷ cs) = state_after host (host.next state c) cs
