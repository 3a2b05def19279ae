-- The arguments of a line whose rules are kept are those of its set.
use Rattle.std.proofs.Common.{◌≡◌, ◌≢◌, ℕ, suc, ◌||◌, Bool, true, false, List, [], ◌∷◌, ◌++◌, length, get_or, map, Option, Some, None, refl, ap, ◌∙◌, sym, subst, arith}
use Rattle.std.specs.Prelude.{All, AllPairs, if◌then◌else◌}
use Rattle.std.specs.List.{Contains, list_any}
use Rattle.std.specs.List.Sorted.{IsPermutation}
use Rattle.std.proofs.lemmas.List.{get_or-map, length-map}
use Rattle.std.proofs.lemmas.Bool.{or_parts}
use Rattle.std.proofs.lemmas.List.Elements.{All-append, All-nil, All-cons, All-map, All-weaker}
use Rattle.std.proofs.lemmas.List.Folds.{list_any-append}
use Rattle.std.proofs.lemmas.List.Kept.{AllPairs-cons}
use Rattle.std.proofs.lemmas.List.Sorted.{IsPermutation-refl}
use Rattle.std.proofs.lemmas.Map.Made.{IsDistinct-from_AllPairs}
use Rattle.dt_values.specs.Types.{is_text}
use Rattle.dt_values.specs.declared.ctype.Member.{Member}
use Rattle.dt_values.specs.Names.{IsName}
use Rattle.dt_fields.specs.CNames.{IsCName}
use Rattle.dt_fields.specs.Faults.{Broken, named}
use Rattle.dt_values.specs.Members.{has_member}
use Rattle.dt_fields.specs.SoundSets.{IsSoundSet, IsSoundType}
use Rattle.dt_fields.specs.declared.rule.Rule.TheVariants as rule
use Rattle.dt_values.specs.declared.set.SetDef.{SetDef}
use Rattle.dt_scope.specs.ElementRows.{has_value}
use Rattle.dt_patterns.specs.Inference.{int_member, new_set}
use Rattle.dt_patterns.specs.LineArguments.{missing_argument, missing_rows, outside_argument, outside_rows, shared_argument, shared_rows, where_named}
use Rattle.dt_model.specs.Patterns.{GivenValues}
use Rattle.dt_model.specs.declared.value.FieldValue.{FieldValue}
use Rattle.dt_patterns.proofs.LineValues.{AreGiven}
use Rattle.dt_patterns.proofs.SameNames.{is_there, same_names, text_decides}
use Rattle.dt_patterns.proofs.Unbroken.{both_empty, texts_differ}

abbrev pub value_names : GivenValues → List (List ℕ)
value_names values = map (λ v. v.0) values

abbrev pub member_names : List Member → List (List ℕ)
member_names members = map (λ m. m.name) members

none_named : (o : Option (List ℕ)) (b : List ℕ → Broken) → where_named o b ≡ [] → o ≡ None
none_named None b h = refl
none_named (Some name) b h = absurd (cc)

all_inside : (values : GivenValues) (members : List Member) → outside_argument values members ≡ None
    → All (λ v. has_member members v.0 ≡ true) values
all_inside [] members h = All-nil (λ v. has_member members v.0 ≡ true)
all_inside (v ∷ vs) members h = by (has_member members v.0) refl (all_inside vs members) h
  where
    by : (b : Bool) → has_member members v.0 ≡ b
        → (outside_argument vs members ≡ None → All (λ v. has_member members v.0 ≡ true) vs)
        → (if b then outside_argument vs members else Some v.0) ≡ None
        → All (λ v. has_member members v.0 ≡ true) (v ∷ vs)
    by true e rest none = All-cons (λ v. has_member members v.0 ≡ true) v vs e (rest none)
    by false e rest none = absurd (cc)

-- no argument of a line is its format's too
all_others : (base values : GivenValues) → shared_argument base values ≡ None
    → All (λ v. has_value base v.0 ≡ false) values
all_others base [] h = All-nil (λ v. has_value base v.0 ≡ false)
all_others base (v ∷ vs) h = by (has_value base v.0) refl (all_others base vs) h
  where
    by : (b : Bool) → has_value base v.0 ≡ b
        → (shared_argument base vs ≡ None → All (λ v. has_value base v.0 ≡ false) vs)
        → (if b then Some v.0 else shared_argument base vs) ≡ None → All (λ v. has_value base v.0 ≡ false) (v ∷ vs)
    by true e rest none = absurd (cc)
    by false e rest none = All-cons (λ v. has_value base v.0 ≡ false) v vs e (rest none)

all_given : (base values : GivenValues) (members : List Member) → missing_argument base values members ≡ None
    → All (λ m. (has_value base m.name || has_value values m.name) ≡ true) members
all_given base values [] h = All-nil (λ m. (has_value base m.name || has_value values m.name) ≡ true)
all_given base values (m ∷ ms) h = by (has_value base m.name || has_value values m.name) refl
    (all_given base values ms) h
  where
    by : (b : Bool) → (has_value base m.name || has_value values m.name) ≡ b
        → (missing_argument base values ms ≡ None
        → All (λ m. (has_value base m.name || has_value values m.name) ≡ true) ms)
        → (if b then missing_argument base values ms else Some m.name) ≡ None
        → All (λ m. (has_value base m.name || has_value values m.name) ≡ true) (m ∷ ms)
    by true e rest none = All-cons (λ m. (has_value base m.name || has_value values m.name) ≡ true) m ms e (rest none)
    by false e rest none = absurd (cc)

-- a test of names, on the names themselves
any_name : {X : Type 0} (name_of : X → List ℕ) (n : List ℕ) (xs : List X)
    → list_any (λ x. is_text n (name_of x)) xs ≡ list_any (is_text n) (map name_of xs)
any_name name_of n [] = refl
any_name name_of n (x ∷ xs) = ap (λ b. is_text n (name_of x) || b) (any_name name_of n xs)

-- what holds of each of these names holds of one of them
pub name_holds : {X : Type 0} (P : List ℕ → Type 0) (name_of : X → List ℕ) (xs : List X) (n : List ℕ)
    → All (λ x. P (name_of x)) xs → Contains (map name_of xs) n → P n
name_holds P name_of xs n all (k, below, is) =
    subst P is (All-map P name_of xs all k n below)

pub names_differ : {X : Type 0} (name_of : X → List ℕ) (xs : List X) → AllPairs (λ x y. name_of x ≢ name_of y) xs
    → AllPairs (λ a b. a ≢ b) (map name_of xs)
names_differ name_of [] h i j d before below = absurd (omega arith)
names_differ name_of (x ∷ xs) h i j d before below =
    let count : length (map name_of (x ∷ xs)) ≡ length (x ∷ xs) = length-map (x ∷ xs) name_of in
    let here : get_or (map name_of (x ∷ xs)) i d ≡ name_of (get_or (x ∷ xs) i x) =
    get_or-map name_of (x ∷ xs) i x d (omega arith) in
    let there : get_or (map name_of (x ∷ xs)) j d ≡ name_of (get_or (x ∷ xs) j x) =
    get_or-map name_of (x ∷ xs) j x d (omega arith) in
    λ same. h i j x before (omega arith) (sym here ∙ same ∙ there)

-- values of a format or a pattern, each of an argument of the set, and none twice
pub record AreArgumentsIn (values : GivenValues) (members : List Member) : Type 0 where
  pub inside : All (λ v. has_member members v.0 ≡ true) values
  pub differ : AllPairs (λ v w. v.0 ≢ w.0) values

pub inside_by : (values : GivenValues) (members : List Member) → outside_rows values members ≡ []
    → All (λ v. has_member members v.0 ≡ true) values
inside_by values members none = all_inside values members
    (none_named (outside_argument values members) (λ name. (rule.G11, named name)) none)

-- a name that a value or an argument has
member_there : (members : List Member) (n : List ℕ) → has_member members n ≡ true → Contains (member_names members) n
member_there members n h = is_there n (member_names members) (sym (any_name (λ (m : Member). m.name) n members) ∙ h)

pub value_there : (values : GivenValues) (n : List ℕ) → has_value values n ≡ true → Contains (value_names values) n
value_there values n h = is_there n (value_names values) (sym (any_name (λ (v : List ℕ × FieldValue). v.0) n values)
    ∙ h)

-- values of a format and others behind them, of other names
joined_differ : (base values : GivenValues) → AllPairs (λ v w. v.0 ≢ w.0) base → AllPairs (λ v w. v.0 ≢ w.0) values
    → All (λ v. has_value base v.0 ≡ false) values
    → AllPairs (λ v w. v.0 ≢ w.0) (base ++ values)
joined_differ [] values one two others = two
joined_differ (b ∷ bs) values one two others =
    let R : List ℕ × FieldValue → List ℕ × FieldValue → Type 0 = λ v w. v.0 ≢ w.0 in
    let parts : (v : List ℕ × FieldValue) → has_value (b ∷ bs) v.0 ≡ false
    → (is_text v.0 b.0 ≡ false) × (has_value bs v.0 ≡ false) =
    λ v h. or_parts (is_text v.0 b.0) (has_value bs v.0) h in
    AllPairs-cons R b (bs ++ values)
    (All-append (R b) bs values (λ k d below. one 0 (suc k) d (omega arith) (omega arith))
    (All-weaker (λ v. has_value (b ∷ bs) v.0 ≡ false) (R b)
    (λ v h same. texts_differ v.0 b.0 (parts v h).0 (sym same)) values others))
    (joined_differ bs values (λ i j d before below. one (suc i) (suc j) d (omega arith) (omega arith)) two
    (All-weaker (λ v. has_value (b ∷ bs) v.0 ≡ false) (λ v. has_value bs v.0 ≡ false)
    (λ v h. (parts v h).1) values others))

-- a set that was there
pub arguments_are_given : (base values : GivenValues) (set : SetDef) → AreArgumentsIn base set.members
    → AllPairs (λ v w. v.0 ≢ w.0) values → IsSoundSet set
    → outside_rows values set.members ++ (shared_rows base values ++ missing_rows base values set.members) ≡ []
    → IsPermutation (value_names (base ++ values)) (member_names set.members)
arguments_are_given base values set h differ sound none =
    let first = both_empty (outside_rows values set.members) _ none in
    let second = both_empty (shared_rows base values) (missing_rows base values set.members) first.1 in
    let inside = inside_by values set.members first.0 in
    let others = all_others base values (none_named (shared_argument base values)
    (λ name. (rule.G16, named name)) second.0) in
    let given = all_given base values set.members
    (none_named (missing_argument base values set.members) (λ name. (rule.G17, named name)) second.1) in
    let all : GivenValues = base ++ values in
    same_names (value_names all) (member_names set.members)
    (IsDistinct-from_AllPairs text_decides (value_names all)
    (names_differ (λ (v : List ℕ × FieldValue). v.0) all (joined_differ base values h.differ differ others)))
    (IsDistinct-from_AllPairs text_decides (member_names set.members)
    (names_differ (λ (m : Member). m.name) set.members sound.different))
    (λ n here. member_there set.members n (name_holds (λ n. has_member set.members n ≡ true)
    (λ (v : List ℕ × FieldValue). v.0) all n
    (All-append (λ v. has_member set.members v.0 ≡ true) base values h.inside inside) here))
    (λ n here. value_there all n (list_any-append (λ v. is_text n v.0) base values
    ∙ name_holds (λ n. (has_value base n || has_value values n) ≡ true)
    (λ (m : Member). m.name) set.members n given here))

-- a new set
int_names : (values : GivenValues) → member_names (map int_member values) ≡ value_names values
int_names [] = refl
int_names (v ∷ vs) = ap (λ ns. v.0 ∷ ns) (int_names vs)

pub new_arguments_are_given : (values : GivenValues)
    → IsPermutation (value_names values) (member_names (map int_member values))
new_arguments_are_given values = subst (IsPermutation (value_names values)) (sym (int_names values))
    (IsPermutation-refl (value_names values))

members_differ : (values : GivenValues) → AllPairs (λ v w. v.0 ≢ w.0) values
    → AllPairs (λ a b. a.name ≢ b.name) (map int_member values)
members_differ [] h i j d before below = absurd (omega arith)
members_differ (v ∷ vs) h i j d before below =
    let count : length (map int_member (v ∷ vs)) ≡ length (v ∷ vs) = length-map (v ∷ vs) int_member in
    let here : get_or (map int_member (v ∷ vs)) i d ≡ int_member (get_or (v ∷ vs) i v) =
    get_or-map int_member (v ∷ vs) i v d (omega arith) in
    let there : get_or (map int_member (v ∷ vs)) j d ≡ int_member (get_or (v ∷ vs) j v) =
    get_or-map int_member (v ∷ vs) j v d (omega arith) in
    λ same. h i j v before (omega arith) (sym (ap (λ (m : Member). m.name) here) ∙ same
    ∙ ap (λ (m : Member). m.name) there)

pub new_set_is_sound : (width : ℕ) (name : List ℕ) (values : GivenValues) → IsName name → AreGiven width values
    → IsSoundSet (new_set name values)
new_set_is_sound width name values is_named h = record {
  named = is_named;
  few = let most = h.few in omega (arith, length-map values int_member, most);
  different = members_differ values h.differ;
  c_names = All-map (λ m. IsCName m.name) int_member values h.c_names;
  types = All-map (λ m. IsSoundType m.ctype) int_member values (λ k d below. tt);
}
