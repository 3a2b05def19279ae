-- Names that are among others, with one more.
use Rattle.std.proofs.Common.{◌≡◌, ℕ, ◌||◌, ◌&&◌, List, [], ◌∷◌, ◌++◌, Bool, true, false, refl, sym, ap, ◌∙◌}
use Rattle.std.specs.Prelude.{nat_eq, if◌then◌else◌}
use Rattle.std.specs.List.{list_any}
use Rattle.std.specs.Cmp.Lexicographic.{pointwise, nat_list_eq_equiv}
use Rattle.std.proofs.lemmas.List.Folds.{list_any-append}
use Rattle.std.proofs.lemmas.Map.Steps.{list_any_congr}
use Rattle.indexmap.specs.IndexSet.{insert_key}
use Rattle.dt_values.specs.Types.{is_text}
use Rattle.dt_values.specs.declared.ctype.Member.{Member}
use Rattle.dt_fields.specs.Arguments.{AreArgumentsAmong, IsAmong, has_argument}
use Rattle.dt_values.specs.Members.{has_member}
use Rattle.dt_values.specs.declared.set.SetDef.{SetDef}

abbrev pub is_among : List (List ℕ) → List ℕ → Bool
is_among names name = list_any (is_text name) names

-- a name that is there already changes nothing
again : (names : List (List ℕ)) (n x : List ℕ) (b : Bool) → is_text x n ≡ b → is_among names n ≡ true → is_among names x ≡ (is_among names x || b)
again names n x true same there = rw (list_any_congr nat_list_eq_equiv x n names same ∙ there) refl
again names n x false other there = or_false (is_among names x)
  where
    or_false : (c : Bool) → c ≡ (c || false)
    or_false true = refl
    or_false false = refl

pub or_one : (a b : Bool) → (a || (b || false)) ≡ (a || b)
or_one true b = refl
or_one false true = refl
or_one false false = refl

pub among_push : (names : List (List ℕ)) (n x : List ℕ) → is_among (names ++ n ∷ []) x ≡ (is_among names x || is_text x n)
among_push names n x = list_any-append (is_text x) names (n ∷ []) ∙ or_one (is_among names x) (is_text x n)

insert_by : (names : List (List ℕ)) (n x : List ℕ) (b : Bool) → is_among names n ≡ b → is_among (if b then names else names ++ n ∷ []) x ≡ (is_among names x || is_text x n)
insert_by names n x true there = again names n x (is_text x n) refl there
insert_by names n x false there = among_push names n x

pub among-insert_key : (names : List (List ℕ)) (n x : List ℕ) → is_among (insert_key (pointwise nat_eq) names n) x ≡ (is_among names x || is_text x n)
among-insert_key names n x = insert_by names n x (is_among names n) refl

or_true : (a : Bool) → (a || true) ≡ true
or_true true = refl
or_true false = refl

-- an insert keeps the names that are there, and adds its own
pub insert_keeps : (names more : List (List ℕ)) (n x : List ℕ) → more ≡ insert_key (pointwise nat_eq) names n → IsAmong names x → IsAmong more x
insert_keeps names more n x is there = ap (λ l. is_among l x) is ∙ among-insert_key names n x ∙ ap (λ b. b || is_text x n) there

pub insert_adds : (names more : List (List ℕ)) (n x : List ℕ) → more ≡ insert_key (pointwise nat_eq) names n → is_text x n ≡ true → IsAmong more x
insert_adds names more n x is same = ap (λ l. is_among l x) is ∙ among-insert_key names n x ∙ ap (λ b. is_among names x || b) same ∙ or_true (is_among names x)

either : (a b : Bool) (C : Type 0) → (a || b) ≡ true → (a ≡ true → C) → (b ≡ true → C) → C
either true b C h left right = left refl
either false b C h left right = right h

-- the name of the first argument and those of the rest are there
pub first_and_rest : (names : List (List ℕ)) (m : Member) (ms : List Member) → ((x : List ℕ) → is_text x m.name ≡ true → IsAmong names x)
    → ((x : List ℕ) → has_member ms x ≡ true → IsAmong names x) → (x : List ℕ) → has_member (m ∷ ms) x ≡ true → IsAmong names x
first_and_rest names m ms first rest x h = either (is_text x m.name) (has_member ms x) (IsAmong names x) h (first x) (rest x)

-- one set more
pub arguments_more : (names more : List (List ℕ)) (sets : List SetDef) (s : SetDef) → ((x : List ℕ) → IsAmong names x → IsAmong more x)
    → ((x : List ℕ) → has_member s.members x ≡ true → IsAmong more x) → AreArgumentsAmong names sets → AreArgumentsAmong more (sets ++ s ∷ [])
arguments_more names more sets s kept added among x h =
    either (has_argument sets x) (has_member s.members x) (IsAmong more x)
    (sym (or_one (has_argument sets x) (has_member s.members x)) ∙ sym (list_any-append (λ (t : SetDef). has_member t.members x) sets (s ∷ [])) ∙ h)
    (λ old. kept x (among x old)) (added x)
