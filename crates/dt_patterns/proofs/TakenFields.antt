-- The values of a pattern that takes a format by inference: the format's fields and its own constants.
use Rattle.std.proofs.Common.{◌≡◌, ◌≢◌, ℕ, ◌&&◌, ◌||◌, Bool, true, false, List, [], ◌∷◌, ◌++◌, get_or, refl, ◌∙◌, sym, subst}
use Rattle.std.specs.Prelude.{not}
use Rattle.std.specs.List.{All, AllPairs, Contains, IsDistinct, list_all}
use Rattle.std.specs.List.Sorted.{IsPermutation}
use Rattle.std.proofs.lemmas.Bool.{and_parts}
use Rattle.std.proofs.lemmas.List.{map-append}
use Rattle.std.proofs.lemmas.List.Elements.{All-nil, All-cons, All-filter, All-weaker, filter_passes}
use Rattle.std.proofs.lemmas.List.Kept.{AllPairs-filter}
use Rattle.std.proofs.lemmas.List.Sorted.{IsPermutation-append_left, IsPermutation-filter_both, IsPermutation-map, IsPermutation-refl, IsPermutation-sym, IsPermutation-trans}
use Rattle.std.proofs.lemmas.Map.Views.{any-filter_same}
use Rattle.std.proofs.lemmas.Map.Made.{IsDistinct-from_AllPairs}
use Rattle.dt_values.specs.Types.{is_text}
use Rattle.dt_model.specs.Patterns.{GivenValues}
use Rattle.dt_model.specs.declared.format.Format.{Format}
use Rattle.dt_model.specs.declared.value.FieldValue.{FieldValue}
use Rattle.dt_model.specs.declared.value.FieldValue.TheVariants.{Field, Constant}
use Rattle.dt_scope.specs.ElementRows.{has_value}
use Rattle.dt_patterns.specs.Inference.{constants_of, fields_of, gives, has_fields_of, is_constant, same_value}
use Rattle.dt_patterns.proofs.Arguments.{name_holds, names_differ, value_names, value_there}
use Rattle.dt_patterns.proofs.SameNames.{same_names, text_decides}

abbrev Given : Type 0
Given = List ℕ × FieldValue

all_pass : {X : Type 0} (p : X → Bool) (xs : List X) → list_all p xs ≡ true → All (λ x. p x ≡ true) xs
all_pass p [] h = All-nil (λ x. p x ≡ true)
all_pass p (x ∷ xs) h =
    let parts = and_parts (p x) (list_all p xs) h in
    All-cons (λ x. p x ≡ true) x xs parts.0 (all_pass p xs parts.1)

-- a value that is among others has its name among theirs
given_has_name : (values : GivenValues) (v : Given) → gives values v ≡ true → has_value values v.0 ≡ true
given_has_name [] v h = absurd (cc)
given_has_name (w ∷ ws) v h = by (is_text v.0 w.0) (same_value v.1 w.1) (given_has_name ws v) h
  where
    by : (named same : Bool) → (gives ws v ≡ true → has_value ws v.0 ≡ true) → ((named && same) || gives ws v) ≡ true
        → (named || has_value ws v.0) ≡ true
    by true same rest e = refl
    by false same rest e = rest e

-- what is a field among values of which each is a constant or among others
field_is_given : (others : GivenValues) (v : Given) → (is_constant v.1 || gives others v) ≡ true
    → not (is_constant v.1) ≡ true → gives others v ≡ true
field_is_given others v h e = by (is_constant v.1) h e
  where
    by : (constant : Bool) → (constant || gives others v) ≡ true → not constant ≡ true → gives others v ≡ true
    by true h e = absurd (cc)
    by false h e = h

fields_given : (values others : GivenValues) → list_all (λ v. is_constant v.1 || gives others v) values ≡ true
    → All (λ v. gives others v ≡ true) (fields_of values)
fields_given values others h k d below =
    let test : Given → Bool = λ v. is_constant v.1 || gives others v in
    field_is_given others (get_or (fields_of values) k d)
    (All-filter (λ v. not (is_constant v.1)) (λ v. test v ≡ true) values (all_pass test values h) k d below)
    (filter_passes (λ (v : Given). not (is_constant v.1)) values k d below)

-- the same as a value is a field alone
same_is_field : (v w : FieldValue) → same_value v w ≡ true → not (is_constant w) ≡ true
same_is_field (Field f) (Field g) h = refl
same_is_field (Field f) (Constant z) h = absurd (cc)
same_is_field (Constant y) w h = absurd (cc)

field_among : (values : GivenValues) (v : Given) → gives values v ≡ true → gives (fields_of values) v ≡ true
field_among values v h =
    any-filter_same (λ w. is_text v.0 w.0 && same_value v.1 w.1) (λ w. not (is_constant w.1)) true
    (λ w e. same_is_field v.1 w.1 (and_parts (is_text v.0 w.0) (same_value v.1 w.1) e).1) values
    ∙ h

names_are_distinct : (values : GivenValues) → AllPairs (λ v w. v.0 ≢ w.0) values
    → IsDistinct is_text (value_names values)
names_are_distinct values h = IsDistinct-from_AllPairs text_decides (value_names values)
    (names_differ (λ (v : Given). v.0) values h)

-- each name of values that are among others is a name of these
names_among : (values others : GivenValues) → All (λ v. gives others v ≡ true) values → (n : List ℕ)
    → Contains (value_names values) n → Contains (value_names others) n
names_among values others all n here =
    value_there others n
    (name_holds (λ n. has_value others n ≡ true) (λ (v : Given). v.0) values n
    (All-weaker (λ v. gives others v ≡ true) (λ v. has_value others v.0 ≡ true) (given_has_name others) values all)
    here)

-- a format that has just the fields of a line has their names
same_field_names : (values : GivenValues) (f : Format) → AllPairs (λ v w. v.0 ≢ w.0) values
    → AllPairs (λ v w. v.0 ≢ w.0) f.values → has_fields_of values f ≡ true
    → IsPermutation (value_names f.values) (value_names (fields_of values))
same_field_names values f differ own h =
    let parts = and_parts (list_all (λ v. is_constant v.1 || gives f.values v) values)
    (list_all (gives values) f.values) h in
    same_names (value_names f.values) (value_names (fields_of values)) (names_are_distinct f.values own)
    (names_are_distinct (fields_of values) (AllPairs-filter (λ v w. v.0 ≢ w.0)
    (λ v. not (is_constant v.1)) values differ))
    (names_among f.values (fields_of values)
    (All-weaker (λ v. gives values v ≡ true) (λ v. gives (fields_of values) v ≡ true) (field_among values) f.values
    (all_pass (gives values) f.values parts.1)))
    (names_among (fields_of values) f.values (fields_given values f.values parts.0))

twice_not : (b : Bool) → b ≡ not (not b)
twice_not true = refl
twice_not false = refl

-- fields of the same names and the constants of a line have the names of the line
pub with_constants : (values fields : GivenValues) → IsPermutation (value_names fields) (value_names (fields_of values))
    → IsPermutation (value_names (fields ++ constants_of values)) (value_names values)
with_constants values fields same =
    let name_of : Given → List ℕ = λ v. v.0 in
    let constants : GivenValues = constants_of values in
    let parted : IsPermutation values (fields_of values ++ constants) =
    IsPermutation-filter_both (λ (v : Given). not (is_constant v.1)) (λ v. is_constant v.1)
    (λ v. twice_not (is_constant v.1)) values in
    let names : IsPermutation (value_names fields ++ value_names constants)
    (value_names (fields_of values) ++ value_names constants) =
    IsPermutation-append_left (value_names constants) (value_names fields) (value_names (fields_of values)) same in
    IsPermutation-trans (value_names (fields ++ constants)) (value_names (fields_of values ++ constants))
    (value_names values)
    (subst (λ ns. IsPermutation ns (value_names (fields_of values ++ constants)))
    (sym (map-append name_of fields constants))
    (subst (IsPermutation (value_names fields ++ value_names constants))
    (sym (map-append name_of (fields_of values) constants)) names))
    (IsPermutation-map name_of (fields_of values ++ constants) values
    (IsPermutation-sym values (fields_of values ++ constants) parted))

pub new_with_constants : (values : GivenValues)
    → IsPermutation (value_names (fields_of values ++ constants_of values)) (value_names values)
new_with_constants values = with_constants values (fields_of values)
    (IsPermutation-refl (value_names (fields_of values)))

pub taken_with_constants : (values : GivenValues) (f : Format) → AllPairs (λ v w. v.0 ≢ w.0) values
    → AllPairs (λ v w. v.0 ≢ w.0) f.values → has_fields_of values f ≡ true
    → IsPermutation (value_names (f.values ++ constants_of values)) (value_names values)
taken_with_constants values f differ own h = with_constants values f.values (same_field_names values f differ own h)
