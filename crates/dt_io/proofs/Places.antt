-- The files of places.
use Rattle.std.proofs.Common.{◌≡◌, ℕ, Bool, true, false, ◌||◌, List, [], ◌∷◌, ◌++◌, map, take, cond, Option, Some, None}
use Rattle.std.proofs.Common.{refl, ap, sym, ◌∙◌, true≢false}
use Rattle.std.specs.Prelude.{is_none, unwrap_or}
use Rattle.std.specs.Ordering.{nat_cmp, eq_by_cmp}
use Rattle.std.specs.Cmp.Lexicographic.{slice_cmp, bytes_decides, nat_list_cmp_total, nat_list_eq_equiv}
use Rattle.std.specs.FinMap as finite
use Rattle.std.specs.FinMap.{get-empty, get-insert, get-remove, same_map}
use Rattle.dt_io.proofs.ByName.{same_test}
use Rattle.dt_io.proofs.Named.{files_antisymmetric}
use Rattle.dt_io.specs.Files.{Files, content}
use Rattle.dt_io.specs.Places.{Place, bytes_of, changed, content_of, file_place, files_of, has_place, is_named}
use Rattle.dt_io.specs.Places.{output_place, with_content}

get-with : (files : Files) (name : List ℕ) (content : Option (List ℕ)) (q : List ℕ)
    → finite.get (with_content files name content) q ≡ cond (is_named q name) content (finite.get files q)
get-with files name None q = get-remove nat_list_cmp_total files name q
    ∙ ap (λ b. cond b None (finite.get files q)) (same_test q name)
get-with files name (Some bytes) q = get-insert nat_list_cmp_total files name bytes q
    ∙ ap (λ b. cond b (Some bytes) (finite.get files q)) (same_test q name)

pub get_files : (places : List Place) (name : List ℕ) → finite.get (files_of places) name ≡ content_of name places
get_files [] name = get-empty (slice_cmp nat_cmp) name
get_files (place ∷ places) name = get-with (files_of places) place.name place.content name
    ∙ ap (cond (is_named name place.name) place.content) (get_files places name)

twice : {A : Type 0} (d : Bool) (c o r : A) → cond d c r ≡ cond d c (cond d o r)
twice true c o r = refl
twice false c o r = refl

apart : {A : Type 0} (a d : Bool) (c o r : A) → (a ≡ true → d ≡ true → ⊥)
    → cond a o (cond d c r) ≡ cond d c (cond a o r)
apart true true c o r h = absurd (h refl refl)
apart true false c o r h = refl
apart false d c o r h = refl

either : {A : Type 0} (d : Bool) (o : A) → o ≡ cond d o o
either true o = refl
either false o = refl

-- what is held by name after the first place of a name changed, if there is one or it is to hold nothing
here : (place : Place) (places : List Place) (name q : List ℕ) (content : Option (List ℕ)) (b : Bool)
    → is_named name place.name ≡ b
    → (b ≡ false → content_of q (changed name content places) ≡ cond (is_named name q) content (content_of q places))
    → content_of q (cond b (record place { content = content } ∷ places) (place ∷ changed name content places)) ≡ cond
    (is_named name q) content (content_of q (place ∷ places))
here place places name q content true e rest =
    let same : is_named q place.name ≡ is_named name q = ap (λ n. is_named q n) ((bytes_decides place.name name).0 e)
    ∙ nat_list_eq_equiv.symm name q in
    ap (λ a. cond a content (content_of q places)) same
    ∙ twice (is_named name q) content place.content (content_of q places)
    ∙ ap (λ a. cond (is_named name q) content (cond a place.content (content_of q places))) (sym same)
here place places name q content false e rest =
    ap (cond (is_named q place.name) place.content) (rest refl)
    ∙ apart (is_named q place.name) (is_named name q) content place.content (content_of q places)
    (λ a d. true≢false (sym ((bytes_decides place.name name).1
    ((bytes_decides place.name q).0 a ∙ (bytes_decides q name).0 d)) ∙ e))

content_changed : (places : List Place) (name q : List ℕ) (content : Option (List ℕ))
    → (has_place name places || is_none content) ≡ true
    → content_of q (changed name content places) ≡ cond (is_named name q) content (content_of q places)
content_changed [] name q None h = either (is_named name q) None
content_changed [] name q (Some bytes) h = absurd (true≢false (sym h))
content_changed (place ∷ places) name q content h =
    here place places name q content (is_named name place.name) refl
    (λ e. content_changed places name q content (ap (λ b. (b || has_place name places) || is_none content) (sym e) ∙ h))

files_changed : (places : List Place) (name : List ℕ) (content : Option (List ℕ))
    → (has_place name places || is_none content) ≡ true
    → files_of (changed name content places) ≡ with_content (files_of places) name content
files_changed places name content h = same_map nat_list_cmp_total files_antisymmetric _ _ (λ q.
    get_files (changed name content places) q ∙ content_changed places name q content h
    ∙ ap (cond (is_named name q) content) (sym (get_files places q))
    ∙ ap (λ b. cond b content (finite.get (files_of places) q)) (nat_list_eq_equiv.symm q name)
    ∙ sym (get-with (files_of places) name content q))

pub files_created : (places : List Place) (name : List ℕ) → has_place name places ≡ true
    → files_of (changed name (Some []) places) ≡ finite.insert (files_of places) name []
files_created places name h = files_changed places name (Some []) (ap (λ b. b || false) h)

pub files_grown : (places : List Place) (name piece : List ℕ) (n : ℕ) → has_place name places ≡ true
    → files_of (changed name (Some (bytes_of name places ++ take n piece)) places) ≡ finite.insert
    (files_of places) name (content (files_of places) name ++ take n piece)
files_grown places name piece n h =
    files_changed places name (Some (bytes_of name places ++ take n piece)) (ap (λ b. b || false) h)
    ∙ ap (λ o. finite.insert (files_of places) name (unwrap_or o [] ++ take n piece)) (sym (get_files places name))

either_true : (b : Bool) → (b || true) ≡ true
either_true true = refl
either_true false = refl

pub files_removed : (places : List Place) (name : List ℕ)
    → files_of (changed name None places) ≡ finite.remove (files_of places) name
files_removed places name = files_changed places name None (either_true (has_place name places))

pub files_without : (places : List Place) (name : List ℕ)
    → ((content : Option (List ℕ)) → changed name content places ≡ places)
    → files_of places ≡ finite.remove (files_of places) name
files_without places name same = ap files_of (sym (same None)) ∙ files_removed places name

abbrev no_files : Files
no_files = finite.empty

remove-empty : (name : List ℕ) → finite.remove no_files name ≡ no_files
remove-empty name = same_map nat_list_cmp_total files_antisymmetric _ _ (λ q.
    get-remove nat_list_cmp_total no_files name q
    ∙ ap (cond (eq_by_cmp (slice_cmp nat_cmp) q name) None) (get-empty (slice_cmp nat_cmp) q)
    ∙ sym (either (eq_by_cmp (slice_cmp nat_cmp) q name) None)
    ∙ sym (get-empty (slice_cmp nat_cmp) q))

-- a new folder holds its files alone
files_outputs : (room : ℕ) (names : List (List ℕ)) → files_of (map (output_place room) names) ≡ no_files
files_outputs room [] = refl
files_outputs room (name ∷ names) = ap (λ (files : Files). finite.remove files name) (files_outputs room names)
    ∙ remove-empty name

pub files_new : (room : ℕ) (pairs : List (List ℕ × List ℕ)) (names : List (List ℕ))
    → files_of (map (file_place room) pairs ++ map (output_place room) names) ≡ finite.from_entries pairs
files_new room [] names = files_outputs room names
files_new room (pair ∷ pairs) names =
    ap (λ (files : Files). finite.insert files pair.0 pair.1) (files_new room pairs names)
