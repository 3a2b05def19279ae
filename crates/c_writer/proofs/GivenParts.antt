-- The values of a pattern's format and its own are parts of all, and together they are for each argument.
use Rattle.std.proofs.Common.{◌≡◌, Bool, true, false, cond, [], ◌∷◌, ◌++◌, get_or, ℤ, Option, Some, None, refl}
use Rattle.std.proofs.Common.{sym, subst, ap, ◌∙◌}
use Rattle.std.specs.Prelude.{All, IsSome}
use Rattle.std.proofs.lemmas.List.Elements.{All-head, All-tail}
use Rattle.std.proofs.lemmas.Slice.Eq.{bytes_eq-Decides}
use Rattle.dt_values.specs.Types.{is_text}
use Rattle.dt_values.specs.declared.ctype.Member.{Member}
use Rattle.dt_model.specs.Patterns.{GivenValues}
use Rattle.dt_model.specs.declared.value.FieldValue.{FieldValue}
use Rattle.dt_model.specs.SetOrder.{given_in}
use Rattle.c_subset.specs.Programs.{Name}
use Rattle.c_eval.specs.Runs.{Held}
use Rattle.c_writer.specs.Parts.{NamedPattern}
use Rattle.c_writer.specs.Sound.{GivesOnce}
use Rattle.c_writer.proofs.Filling.{ArePart, IsFilled}

-- what is given by the first of two lists, or else by the second
abbrev either : Option FieldValue → Option FieldValue → Option FieldValue
either None second = second
either (Some given) second = Some given

one_more : (b : Bool) (given : FieldValue) (first second : Option FieldValue)
    → cond b (Some given) (either first second) ≡ either (cond b (Some given) first) second
one_more true given first second = refl
one_more false given first second = refl

pub given_append : (vs more : GivenValues) (name : Name)
    → given_in (vs ++ more) name ≡ either (given_in vs name) (given_in more name)
given_append [] more name = refl
given_append (v ∷ vs) more name =
    ap (cond (is_text name v.0) (Some v.1)) (given_append vs more name)
    ∙ one_more (is_text name v.0) v.1 (given_in vs name) (given_in more name)

-- where each value's argument has it, an argument that gets something does
module _ (P : Name → Type 0) (name : Name) where
  named_by : (v : Name × FieldValue) (vs : GivenValues) (b : Bool) → is_text name v.0 ≡ b
      → IsSome (cond b (Some v.1) (given_in vs name)) → P v.0 → (IsSome (given_in vs name) → P name) → P name
  named_by v vs true is some first later = subst P (sym ((bytes_eq-Decides name v.0).0 is)) first
  named_by v vs false is some first later = later some

  pub given_named : (vs : GivenValues) → All (λ v. P v.0) vs → IsSome (given_in vs name) → P name
  given_named [] h some = absurd (cc)
  given_named (v ∷ vs) h some =
      named_by v vs (is_text name v.0) refl some (All-head (λ v. P v.0) v vs h)
      (given_named vs (All-tail (λ v. P v.0) v vs h))

some_given : (o : Option FieldValue) (given : FieldValue) → o ≡ Some given → IsSome o
some_given o given is = subst IsSome (sym is) refl

-- the format gives nothing to what the pattern's own line gives a value
not_extracted : (q : NamedPattern) → GivesOnce q → (name : Name) → IsSome (given_in q.own name)
    → given_in q.extracted name ≡ None
not_extracted q once name some = given_named (λ n. given_in q.extracted n ≡ None) name q.own once.apart some

all_given : (q : NamedPattern) → GivesOnce q → (name : Name)
    → given_in q.trial.values name ≡ either (given_in q.extracted name) (given_in q.own name)
all_given q once name = ap (λ vs. given_in vs name) once.all ∙ given_append q.extracted q.own name

pub extracted_part : (q : NamedPattern) → GivesOnce q → ArePart q.extracted q.trial.values
extracted_part q once name given is = all_given q once name ∙ ap (λ o. either o (given_in q.own name)) is

pub own_part : (q : NamedPattern) → GivesOnce q → ArePart q.own q.trial.values
own_part q once name given is =
    all_given q once name ∙ ap (λ o. either o (given_in q.own name))
    (not_extracted q once name (some_given (given_in q.own name) given is)) ∙ is

-- an argument holds its value after the first, or after the second
one_filled : (q : NamedPattern) (value : Name → ℤ) (middle after : Held) (m : Member)
    (first second : Option FieldValue) → IsSome (either first second)
    → (IsSome first → middle m.name ≡ Some (value m.name))
    → ((n : Name) → middle n ≡ Some (value n) → after n ≡ Some (value n))
    → (IsSome second → after m.name ≡ Some (value m.name)) → after m.name ≡ Some (value m.name)
one_filled q value middle after m None second some extracted kept own = own some
one_filled q value middle after m (Some given) second some extracted kept own = kept m.name (extracted refl)

pub both_filled : (q : NamedPattern) (value : Name → ℤ) (middle after : Held) → GivesOnce q
    → All (λ m. IsSome (given_in q.trial.values m.name)) q.trial.members
    → All (IsFilled q.extracted value middle) q.trial.members
    → ((n : Name) → middle n ≡ Some (value n) → after n ≡ Some (value n))
    → All (IsFilled q.own value after) q.trial.members → All (λ m. after m.name ≡ Some (value m.name)) q.trial.members
both_filled q value middle after once each extracted kept own k d below =
    let m = get_or q.trial.members k d in
    one_filled q value middle after m (given_in q.extracted m.name) (given_in q.own m.name)
    (subst IsSome (all_given q once m.name) (each k d below)) (extracted k d below) kept (own k d below)
