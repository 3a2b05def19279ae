-- One file of a folder, and the others.
use Rattle.std.proofs.Common.{◌≡◌, ℕ, Bool, true, false, List, [], ◌++◌, take, cond, Option, Some, None, Result, Ok}
use Rattle.std.proofs.Common.{Err, refl, ap, subst, sym, ◌∙◌, append-nil, true≢false}
use Rattle.std.specs.Prelude.{IsSome, is_some, unwrap_or}
use Rattle.std.specs.Cmp.{eq_by_cmp_equiv}
use Rattle.std.specs.Ordering.{nat_cmp, eq_by_cmp}
use Rattle.std.specs.Cmp.Lexicographic.{slice_cmp, nat_list_cmp_total, bytes_decides}
use Rattle.std.specs.FinMap as finite
use Rattle.std.specs.FinMap.{get-insert, get-remove, same_map, IsAntisymmetric, nat_cmp-IsAntisymmetric}
use Rattle.std.specs.FinMap.{slice_cmp-IsAntisymmetric}
use Rattle.dt_io.proofs.ByName.{same_test}
use Rattle.dt_io.specs.Bytes.{AppendsPart, extend, taken_bytes}
use Rattle.dt_io.specs.Outputs.{LeavesPart, part}
use Rattle.dt_io.specs.Files.{Files, IsHeld, content, file_at, grown, with_file, without}

pub files_antisymmetric : IsAntisymmetric (slice_cmp nat_cmp)
files_antisymmetric = slice_cmp-IsAntisymmetric nat_cmp-IsAntisymmetric

name_itself : (name : List ℕ) → eq_by_cmp (slice_cmp nat_cmp) name name ≡ true
name_itself name = (eq_by_cmp_equiv nat_list_cmp_total).refl name

pub get-inserted : (files : Files) (name bytes : List ℕ) → finite.get (finite.insert files name bytes) name ≡ Some bytes
get-inserted files name bytes =
    get-insert nat_list_cmp_total files name bytes name
    ∙ ap (λ b. cond b (Some bytes) (finite.get files name)) (name_itself name)

remove_either : (b : Bool) (bytes : List ℕ) (o : Option (List ℕ)) → cond b None (cond b (Some bytes) o) ≡ cond b None o
remove_either true bytes o = refl
remove_either false bytes o = refl

pub remove-inserted : (files : Files) (name bytes : List ℕ)
    → finite.remove (finite.insert files name bytes) name ≡ finite.remove files name
remove-inserted files name bytes = same_map nat_list_cmp_total files_antisymmetric _ _ (λ q.
    get-remove nat_list_cmp_total (finite.insert files name bytes) name q
    ∙ ap (cond (eq_by_cmp (slice_cmp nat_cmp) q name) None) (get-insert nat_list_cmp_total files name bytes q)
    ∙ remove_either (eq_by_cmp (slice_cmp nat_cmp) q name) bytes (finite.get files q)
    ∙ sym (get-remove nat_list_cmp_total files name q))

held_content : (o : Option (List ℕ)) (bytes : List ℕ) → IsSome o → Some (unwrap_or o [] ++ bytes) ≡ extend o bytes
held_content None bytes h = absurd (true≢false (sym h))
held_content (Some xs) bytes h = refl

extend-nil : (o : Option (List ℕ)) → o ≡ extend o []
extend-nil None = refl
extend-nil (Some xs) = ap Some (sym (append-nil xs))

-- what a write leaves of the file
pub file_at_grown : {E : Type 0} (known : Option Files) (name piece : List ℕ) (result : Result ℕ E) → IsHeld known name
    → file_at (grown known name piece result) name ≡ extend (file_at known name) (taken_bytes result piece)
file_at_grown None name piece (Ok n) h = refl
file_at_grown None name piece (Err e) h = refl
file_at_grown (Some files) name piece (Ok n) h =
    get-inserted files name (content files name ++ take n piece) ∙ held_content (finite.get files name) (take n piece) h
file_at_grown (Some files) name piece (Err e) h = extend-nil (finite.get files name)

pub without_grown : {E : Type 0} (known : Option Files) (name piece : List ℕ) (result : Result ℕ E)
    → without (grown known name piece result) name ≡ without known name
without_grown None name piece (Ok n) = refl
without_grown (Some files) name piece (Ok n) = ap Some (remove-inserted files name (content files name ++ take n piece))
without_grown known name piece (Err e) = refl

pub held_grown : {E : Type 0} (known : Option Files) (name piece : List ℕ) (result : Result ℕ E) → IsHeld known name
    → IsHeld (grown known name piece result) name
held_grown None name piece (Ok n) h = refl
held_grown None name piece (Err e) h = h
held_grown (Some files) name piece (Ok n) h = ap is_some (get-inserted files name (content files name ++ take n piece))
held_grown (Some files) name piece (Err e) h = h

-- a created file is held, and empty
pub held_created : (known : Option Files) (name : List ℕ) → IsHeld (with_file known name []) name
held_created None name = refl
held_created (Some files) name = ap is_some (get-inserted files name [])

by_name : (files other : Files) (name bytes q : List ℕ) → finite.remove other name ≡ finite.remove files name
    → finite.get other name ≡ Some bytes → (b : Bool) → eq_by_cmp (slice_cmp nat_cmp) q name ≡ b
    → finite.get other q ≡ finite.get (finite.insert files name bytes) q
by_name files other name bytes q beside here true e =
    let same : name ≡ q = (bytes_decides name q).0 (sym (same_test q name) ∙ e) in
    subst (λ q. finite.get other q ≡ finite.get (finite.insert files name bytes) q) same
    (here ∙ sym (get-inserted files name bytes))
by_name files other name bytes q beside here false e =
    sym (ap (λ b. cond b None (finite.get other q)) e) ∙ sym (get-remove nat_list_cmp_total other name q)
    ∙ ap (λ m. finite.get m q) beside ∙ get-remove nat_list_cmp_total files name q
    ∙ ap (λ b. cond b None (finite.get files q)) e
    ∙ sym (ap (λ b. cond b (Some bytes) (finite.get files q)) e)
    ∙ sym (get-insert nat_list_cmp_total files name bytes q)

same_beside : (files other : Files) (name bytes : List ℕ) → finite.remove other name ≡ finite.remove files name
    → finite.get other name ≡ Some bytes → other ≡ finite.insert files name bytes
same_beside files other name bytes beside here =
    same_map nat_list_cmp_total files_antisymmetric _ _
    (λ q. by_name files other name bytes q beside here (eq_by_cmp (slice_cmp nat_cmp) q name) refl)

some_same : {A : Type 0} (a b : A) → Some a ≡ Some b → a ≡ b
some_same a b e = ap (λ o. unwrap_or o a) e

-- a file that was empty and has these bytes behind, beside others that are as they were
pub written_file : (old new : Option Files) (name bytes : List ℕ)
    → file_at new name ≡ extend (file_at (with_file old name []) name) bytes
    → without new name ≡ without (with_file old name []) name
    → new ≡ with_file old name bytes
written_file None None name bytes here beside = refl
written_file None (Some new) name bytes here beside = absurd (true≢false (ap is_some beside))
written_file (Some old) None name bytes here beside = absurd (true≢false (sym (ap is_some beside)))
written_file (Some old) (Some new) name bytes here beside =
    ap Some (same_beside old new name bytes
    (some_same _ _ beside ∙ remove-inserted old name [])
    (here ∙ ap (λ o. extend o bytes) (get-inserted old name [])))

-- a write that failed behind a file that was made empty
pub part_file : (old made new : Option Files) (name text : List ℕ) → made ≡ with_file old name []
    → AppendsPart (file_at made name) (file_at new name) text → without new name ≡ without made name
    → LeavesPart old new name text
part_file old made new name text is some beside =
    part some.count some.short (written_file old new name (take some.count text)
    (some.part ∙ ap (λ m. extend (file_at m name) (take some.count text)) is)
    (beside ∙ ap (λ m. without m name) is))
