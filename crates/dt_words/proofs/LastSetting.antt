-- The settings of options, seen from the last word.
use Rattle.std.proofs.Common.{◌≡◌, ℕ, List, [], ◌∷◌, ◌++◌, Option, Some, None, refl, ap, ◌∙◌}
use Rattle.std.specs.Option.{option_or}
use Rattle.dt_words.specs.Roles.{Role}
use Rattle.dt_words.specs.Settings.{last_setting, setting_in}

or_none : {A : Type 0} (a : Option A) → option_or None a ≡ option_or a None
or_none None = refl
or_none (Some x) = refl

or_or : {A : Type 0} (a b c : Option A) → option_or (option_or a b) c ≡ option_or a (option_or b c)
or_or None b c = refl
or_or (Some x) b c = refl

pub last_word_first : (name other : List ℕ) (roles : List Role) (role : Role)
    → last_setting name other (roles ++ role ∷ []) ≡ option_or (setting_in name other role)
    (last_setting name other roles)
last_word_first name other [] role = or_none (setting_in name other role)
last_word_first name other (first ∷ roles) role =
    ap (λ setting. option_or setting (setting_in name other first)) (last_word_first name other roles role)
    ∙ or_or (setting_in name other role) (last_setting name other roles) (setting_in name other first)
