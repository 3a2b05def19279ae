-- The first place of a name.
use Rattle.std.proofs.Common.{◌≡◌, ℕ, zero, suc, ◌<◌, true, ◌||◌, List, [], ◌∷◌, ◌++◌, length, take, drop, get_or, set}
use Rattle.std.proofs.Common.{cond, Option, refl, ap, sym, ◌∙◌, arith}
use Rattle.std.proofs.Math.Seq.{set_split}
use Rattle.dt_io.specs.Places.{IsPlaceOf, Place, changed, content_of, has_place, is_named, room_of}

same_item : {A : Type 0} (xs : List A) (i : ℕ) (d e : A) → i < length xs → get_or xs i d ≡ get_or xs i e
same_item [] i d e h = absurd (omega arith)
same_item (x ∷ xs) zero d e h = refl
same_item (x ∷ xs) (suc i) d e h = same_item xs i d e (omega arith)

drop_here : {A : Type 0} (xs : List A) (i : ℕ) (d : A) → i < length xs → drop i xs ≡ get_or xs i d ∷ drop (suc i) xs
drop_here [] i d h = absurd (omega arith)
drop_here (x ∷ xs) zero d h = refl
drop_here (x ∷ xs) (suc i) d h = drop_here xs i d (omega arith)

-- none of the places before the one of this number has the name, and that one has it
pub placed : (places : List Place) (name : List ℕ) (i : ℕ) (place : Place) → i < length places
    → place ≡ get_or places i place → is_named name place.name ≡ true
    → has_place name (drop i places) ≡ has_place name places
    → content_of name (drop i places) ≡ content_of name places
    → room_of name (drop i places) ≡ room_of name places
    → ((content : Option (List ℕ)) → take i places ++ changed name content
    (drop i places) ≡ changed name content places)
    → IsPlaceOf name places i
placed places name i place h is named there content room rest =
    let called : (d : Place) → is_named name (get_or places i d).name ≡ true =
    λ d. ap (λ (p : Place). is_named name p.name) (same_item places i d place h ∙ sym is) ∙ named in
    record {
      within = h;
      there = sym there ∙ ap (has_place name) (drop_here places i place h)
          ∙ ap (λ b. b || has_place name (drop (suc i) places)) (called place);
      content = λ d. sym content ∙ ap (content_of name) (drop_here places i d h)
          ∙ ap (λ b. cond b (get_or places i d).content (content_of name (drop (suc i) places))) (called d);
      room = λ d. sym room ∙ ap (room_of name) (drop_here places i d h)
          ∙ ap (λ b. cond b (get_or places i d).room (room_of name (drop (suc i) places))) (called d);
      set = λ d content. set_split places i _ h
          ∙ sym (sym (rest content) ∙ ap (λ xs. take i places ++ changed name content xs) (drop_here places i d h)
          ∙ ap (λ b. take i places ++ cond b (record (get_or places i d) { content = content } ∷ drop (suc i) places)
          (get_or places i d ∷ changed name content (drop (suc i) places))) (called d));
    }
