-- Where an argument is new, no set has exactly the arguments.
use Rattle.std.proofs.Common.{◌≡◌, ◌+◌, ◌&&◌, ◌||◌, Bool, true, false, List, [], ◌∷◌, length, cond, refl, ap, ◌∙◌, arith}
use Rattle.std.specs.Prelude.{not}
use Rattle.std.proofs.lemmas.Bool.{false≢true}
use Rattle.std.specs.List.{list_all}
use Rattle.dt_fields.specs.Arguments.{has_argument}
use Rattle.dt_values.specs.Members.{has_member}
use Rattle.dt_values.specs.declared.set.SetDef.{SetDef}
use Rattle.dt_scope.specs.ElementRows.{has_value}
use Rattle.dt_patterns.specs.Inference.{has_exactly, has_new_argument, is_int, matching_set}
use Rattle.dt_model.specs.Patterns.{GivenValues}

-- what is new to a set and to others is so to each
parts : (here there all old new : Bool) → (not (here || there) || old) ≡ true
    → (old ≡ true → (all ≡ false) × (new ≡ true)) → ((here && all) ≡ false) × ((not there || new) ≡ true)
parts false false all old new h rest = (refl, refl)
parts false true all old new h rest = (refl, (rest h).1)
parts true false all old new h rest = ((rest h).0, refl)
parts true true all old new h rest = rest h

new_to_both : (values : GivenValues) (s : SetDef) (sets : List SetDef) → has_new_argument values (s ∷ sets) ≡ true
    → (list_all (λ v. has_member s.members v.0) values ≡ false) × (has_new_argument values sets ≡ true)
new_to_both [] s sets h = absurd (false≢true h)
new_to_both (v ∷ vs) s sets h =
    parts (has_member s.members v.0) (has_argument sets v.0) (list_all (λ w. has_member s.members w.0) vs)
    (has_new_argument vs (s ∷ sets)) (has_new_argument vs sets) h (new_to_both vs s sets)

and_false : (a b c : Bool) → b ≡ false → (a && (b && c)) ≡ false
and_false true b c h = ap (λ x. x && c) h
and_false false b c h = refl

pub none_matches : (values : GivenValues) (sets : List SetDef) → has_new_argument values sets ≡ true
    → matching_set values sets ≡ length sets
none_matches values [] h = refl
none_matches values (s ∷ sets) h =
    let new = new_to_both values s sets h in
    let other : has_exactly values s ≡ false =
    and_false (list_all (λ m. is_int m.ctype) s.members) (list_all (λ v. has_member s.members v.0) values)
    (list_all (λ m. has_value values m.name) s.members) new.0 in
    ap (λ b. cond (not b) (1 + matching_set values sets) 0) other
    ∙ (let count = none_matches values sets new.1 in omega arith)
