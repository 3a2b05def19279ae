-- The place of an operand, and that it isn't faulty where no word is.
use Rattle.std.proofs.Common.{◌≡◌, ℕ, zero, suc, ◌+◌, ◌<◌, ◌==◌, List, [], ◌∷◌, length, get_or, Some, None}
use Rattle.std.proofs.Common.{Bool, refl, subst, arith}
use Rattle.std.specs.List.{slice_get}
use Rattle.std.proofs.lemmas.Option.{none-some, same_Some}
use Rattle.dt_words.specs.Rows.{operands_of}
use Rattle.dt_words.specs.Roles.{Role, Ends, Operand, Sets, Asks, Unknown}
use Rattle.dt_words.specs.Faults.{first_fault, operand_count, operand_fault, word_fault}
use Rattle.dt_words.specs.Operands.{operands, places_from}
use Rattle.dt_words.specs.declared.rows.Verb.{Verb}
use Rattle.dt_words.proofs.FewOperands.{here_none, later_none}

-- operand n is this text, and its place is that of this item, where the first has the place given
pub record IsAt (roles : List Role) (place n : ℕ) (text : List ℕ) : Type 0 where
  pub index : ℕ
  pub within : index < length roles
  pub place_is : get_or (places_from place roles) n 0 ≡ place + index
  pub role_is : slice_get roles index ≡ Some (Operand text)

later_at : (role : Role) (roles : List Role) (place n m : ℕ) (text : List ℕ)
    → get_or (places_from place (role ∷ roles)) m 0 ≡ get_or (places_from (place + 1) roles) n 0
    → IsAt roles (place + 1) n text → IsAt (role ∷ roles) place m text
later_at role roles place n m text same at =
    let less : at.index < length roles = at.within in
    let is : get_or (places_from (place + 1) roles) n 0 ≡ place + 1 + at.index = at.place_is in
    record {
      index = suc at.index;
      within = omega arith;
      place_is = omega arith;
      role_is = at.role_is;
    }

pub placed_at : (place n : ℕ) (roles : List Role) (text : List ℕ) → slice_get (operands roles) n ≡ Some text
    → IsAt roles place n text
placed_at place n [] text h = absurd (none-some text h)
placed_at place n (Ends ∷ roles) text h = later_at Ends roles place n n text refl (placed_at (place + 1) n roles text h)
placed_at place zero (Operand operand ∷ roles) text h =
    record { index = 0; within = omega arith; place_is = omega arith; role_is = cc }
placed_at place (suc n) (Operand operand ∷ roles) text h =
    later_at (Operand operand) roles place n (suc n) text refl (placed_at (place + 1) n roles text h)
placed_at place n (Sets row value ∷ roles) text h =
    later_at (Sets row value) roles place n n text refl (placed_at (place + 1) n roles text h)
placed_at place n (Asks row ∷ roles) text h =
    later_at (Asks row) roles place n n text refl (placed_at (place + 1) n roles text h)
placed_at place n (Unknown ∷ roles) text h =
    later_at Unknown roles place n n text refl (placed_at (place + 1) n roles text h)

moved : (verb : Verb) (i j : ℕ) (text : List ℕ) → i ≡ j → operand_fault (slice_get (operands_of verb) i) text ≡ None
    → operand_fault (slice_get (operands_of verb) j) text ≡ None
moved verb i j text is h = subst (λ (k : ℕ). operand_fault (slice_get (operands_of verb) k) text ≡ None) is h

-- one word, and the operands among the rest, where m operands come before it
right_here : (verb : Verb) (m n : ℕ) (last : Bool) (role : Role) (roles : List Role) (text : List ℕ)
    → word_fault verb m last role ≡ None
    → ((k : ℕ) → slice_get (operands roles) k ≡ Some text
    → operand_fault (slice_get (operands_of verb) (m + operand_count role + k)) text ≡ None)
    → slice_get (operands (role ∷ roles)) n ≡ Some text
    → operand_fault (slice_get (operands_of verb) (m + n)) text ≡ None
right_here verb m n last Ends roles text right rest h = moved verb (m + 0 + n) (m + n) text (omega arith) (rest n h)
right_here verb m zero last (Operand operand) roles text right rest h =
    let is : operand ≡ text = same_Some operand text h in
    moved verb m (m + 0) text (omega arith)
    (subst (λ (t : List ℕ). operand_fault (slice_get (operands_of verb) m) t ≡ None) is right)
right_here verb m (suc n) last (Operand operand) roles text right rest h =
    moved verb (m + 1 + n) (m + suc n) text (omega arith) (rest n h)
right_here verb m n last (Sets row value) roles text right rest h =
    moved verb (m + 0 + n) (m + n) text (omega arith) (rest n h)
right_here verb m n last (Asks row) roles text right rest h =
    moved verb (m + 0 + n) (m + n) text (omega arith) (rest n h)
right_here verb m n last Unknown roles text right rest h =
    moved verb (m + 0 + n) (m + n) text (omega arith) (rest n h)

-- an operand isn't faulty where no word is; m operands come before these words
pub operand_right : (verb : Verb) (place m n : ℕ) (roles : List Role) (text : List ℕ)
    → first_fault verb place m roles ≡ None → slice_get (operands roles) n ≡ Some text
    → operand_fault (slice_get (operands_of verb) (m + n)) text ≡ None
operand_right verb place m n [] text right h = absurd (none-some text h)
operand_right verb place m n (role ∷ roles) text right h =
    let later = first_fault verb (place + 1) (m + operand_count role) roles in
    let fault = word_fault verb m (length roles == 0) role in
    right_here verb m n (length roles == 0) role roles text
    (here_none place fault later right)
    (λ k is. operand_right verb (place + 1) (m + operand_count role) k roles text (later_none place fault later right) is)
    h
