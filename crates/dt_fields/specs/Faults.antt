-- Rules that a line breaks, with what a message names beside them. The rules are this project's.
use Rattle.std.specs.Prelude.{ℕ, Bool, true, false, List, [], ◌∷◌, Option, Some, None}
use Rattle.dt_fields.specs.declared.rule.Rule.{Rule}

-- what a message names beside the rule: nothing, a token of the line or a name by its bytes, a number, or bits of the
-- word
pub data Detail : Type 0 where
  nothing : Detail
  token : List ℕ → Detail
  named : List ℕ → Detail
  number : ℕ → Detail
  mask : ℕ → Detail

-- a rule that a line breaks, with its detail
abbrev pub Broken : Type 0
Broken = Rule × Detail

-- a row of the list of rules: it is there where the rule is broken
abbrev pub where_broken : Bool → Broken → List Broken
where_broken true b = b ∷ []
where_broken false b = []

abbrev pub first : {A : Type 0} → List A → Option A
first [] = None
first (x ∷ xs) = Some x
