-- What arguments hold by their places.
use Rattle.std.proofs.Common.{◌≡◌, ◌≢◌, ℕ, zero, suc, ◌+◌, ◌<◌, ◌≤◌, Bool, true, false, cond, List, [], ◌∷◌, length}
use Rattle.std.proofs.Common.{get_or, set, drop, take, map, replicate, option_and_then, subst, ℤ, pos, Option, Some}
use Rattle.std.proofs.Common.{None, option_map, refl, ap, ap₂, sym, ◌∙◌, arith, add-one}
use Rattle.std.proofs.Math.Path.{fun_ext}
use Rattle.std.specs.Prelude.{slice_get, unwrap_or}
use Rattle.std.proofs.lemmas.Option.{slice_get-get_or}
use Rattle.std.proofs.lemmas.Slice.Eq.{bytes_eq-Decides}
use Rattle.dt_values.specs.Types.{is_text}
use Rattle.dt_values.specs.declared.ctype.CType.{CType}
use Rattle.dt_values.specs.declared.ctype.Member.{Member}
use Rattle.dt_values.specs.Stored.{stored}
use Rattle.c_subset.specs.Programs.{Name}
use Rattle.dt_values.specs.Members.{type_in}
use Rattle.std.specs.List.{AllPairs}
use Rattle.dt_values.specs.Held.{AreStored}
use Rattle.c_eval.specs.Runs.{put, all_lost, all_values}
use Rattle.c_eval.specs.LiveSet.{held_in, unless_lost, place_in}

-- ---- all lost
lost_by : (b : Bool) (o : Option ℤ) → o ≡ None → cond b None o ≡ None
lost_by true o h = refl
lost_by false o h = h

lost_each : (ms : List Member) (items : List ℤ) (k : ℕ) (n : Name) → held_in ms items (replicate k false) n ≡ None
lost_each [] items k n = refl
lost_each (m ∷ ms) [] k n = refl
lost_each (m ∷ ms) (z ∷ zs) zero n = refl
lost_each (m ∷ ms) (z ∷ zs) (suc k) n =
    lost_by (is_text n m.name) (held_in ms zs (replicate k false) n) (lost_each ms zs k n)

pub lost_all : (ms : List Member) (items : List ℤ) (k : ℕ) → held_in ms items (replicate k false) ≡ all_lost
lost_all ms items k = fun_ext (lost_each ms items k)

-- ---- one after another
after_suc : (ms : List Member) (items : List ℤ) (held : List Bool) (n : Name) (i : ℕ) (m : Member) → i < length ms
    → i < length items → i < length held → m ≡ get_or ms i m → is_text n m.name ≡ false
    → held_in (drop (suc i) ms) (drop (suc i) items) (drop (suc i) held) n
    ≡ held_in (drop i ms) (drop i items) (drop i held) n
after_suc [] items held n i m h k l is e = absurd (omega arith)
after_suc (x ∷ xs) [] held n i m h k l is e = absurd (omega arith)
after_suc (x ∷ xs) (z ∷ zs) [] n i m h k l is e = absurd (omega arith)
after_suc (x ∷ xs) (z ∷ zs) (b ∷ bs) n zero m h k l is e =
    sym (ap (λ c. cond c (unless_lost b (stored x.ctype z)) (held_in xs zs bs n))
    (ap (λ (y : Member). is_text n y.name) (sym is) ∙ e))
after_suc (x ∷ xs) (z ∷ zs) (b ∷ bs) n (suc i) m h k l is e =
    after_suc xs zs bs n i m (omega arith) (omega arith) (omega arith) is e

pub held_more : (ms : List Member) (items : List ℤ) (held : List Bool) (n : Name) (i : ℕ) (m : Member) → i < length ms
    → i < length items → i < length held → m ≡ get_or ms i m → is_text n m.name ≡ false
    → held_in (drop (i + 1) ms) (drop (i + 1) items) (drop (i + 1) held) n
    ≡ held_in (drop i ms) (drop i items) (drop i held) n
held_more ms items held n i m h k l is e =
    ap (λ j. held_in (drop j ms) (drop j items) (drop j held) n) (add-one i) ∙ after_suc ms items held n i m h k l is e

pub held_here : (ms : List Member) (items : List ℤ) (held : List Bool) (n : Name) (i : ℕ) (m : Member) → i < length ms
    → i < length items → i < length held → m ≡ get_or ms i m → is_text n m.name ≡ true
    → unless_lost (get_or held i false) (stored m.ctype (get_or items i (pos 0)))
    ≡ held_in (drop i ms) (drop i items) (drop i held) n
held_here [] items held n i m h k l is e = absurd (omega arith)
held_here (x ∷ xs) [] held n i m h k l is e = absurd (omega arith)
held_here (x ∷ xs) (z ∷ zs) [] n i m h k l is e = absurd (omega arith)
held_here (x ∷ xs) (z ∷ zs) (b ∷ bs) n zero m h k l is e =
    ap (λ (y : Member). unless_lost b (stored y.ctype z)) is
    ∙ sym (ap (λ c. cond c (unless_lost b (stored x.ctype z)) (held_in xs zs bs n))
    (ap (λ (y : Member). is_text n y.name) (sym is) ∙ e))
held_here (x ∷ xs) (z ∷ zs) (b ∷ bs) n (suc i) m h k l is e =
    held_here xs zs bs n i m (omega arith) (omega arith) (omega arith) is e

-- ---- one argument is assigned
put_here : (t u : Bool) (z : ℤ) (w o : Option ℤ) → t ≡ u → cond t (Some z) o ≡ cond u (Some z) (cond t w o)
put_here true true z w o e = refl
put_here true false z w o e = absurd (cc)
put_here false true z w o e = absurd (cc)
put_here false false z w o e = refl

put_later : (t u : Bool) (w z : Option ℤ) (p o : Option ℤ) → (u ≡ true → t ≡ false) → p ≡ cond u z o
    → cond t w p ≡ cond u z (cond t w o)
put_later true true w z p o differ e = absurd (let k = differ refl in cc)
put_later true false w z p o differ e = refl
put_later false true w z p o differ e = e
put_later false false w z p o differ e = e

abbrev before_one : ℕ → ℕ
before_one zero = zero
before_one (suc n) = n

back : (o : Option ℕ) (i : ℕ) → option_map suc o ≡ Some (suc i) → o ≡ Some i
back None i e = absurd (cc)
back (Some k) i e = ap (option_map before_one) e

never : (o : Option ℕ) → option_map suc o ≡ Some 0 → ⊥
never None e = absurd (cc)
never (Some k) e = absurd (cc)

of_some : (i j : ℕ) → Some i ≡ Some j → i ≡ j
of_some i j e = ap (λ o. unwrap_or o i) e

put_at : (m : Member) (ms : List Member) (y : ℤ) (ys : List ℤ) (b : Bool) (bs : List Bool) (i : ℕ) (a : Name)
    (t : CType) (z : ℤ) (n : Name) (c : Bool)
    → is_text a m.name ≡ c → cond c (Some 0) (option_map suc (place_in ms a)) ≡ Some i
    → cond c (Some m.ctype) (type_in ms a) ≡ Some t
    → ((j : ℕ) → place_in ms a ≡ Some j → type_in ms a ≡ Some t
    → held_in ms (set ys j z) (set bs j true) n ≡ put a (stored t z) (held_in ms ys bs) n)
    → held_in (m ∷ ms) (set (y ∷ ys) i z) (set (b ∷ bs) i true) n
    ≡ put a (stored t z) (held_in (m ∷ ms) (y ∷ ys) (b ∷ bs)) n
put_at m ms y ys b bs zero a t z n true is e typed more =
    ap (λ u. cond (is_text n m.name) (Some (stored u z)) (held_in ms ys bs n)) (ap (λ o. unwrap_or o t) typed)
    ∙ put_here (is_text n m.name) (is_text n a) (stored t z) (unless_lost b (stored m.ctype y)) (held_in ms ys bs n)
    (ap (is_text n) (sym ((bytes_eq-Decides a m.name).0 is)))
put_at m ms y ys b bs (suc i) a t z n true is e typed more = absurd (let l = of_some 0 (suc i) e in omega arith)
put_at m ms y ys b bs zero a t z n false is e typed more = absurd (never (place_in ms a) e)
put_at m ms y ys b bs (suc i) a t z n false is e typed more =
    put_later (is_text n m.name) (is_text n a) (unless_lost b (stored m.ctype y)) (Some (stored t z))
    (held_in ms (set ys i z) (set bs i true) n) (held_in ms ys bs n)
    (λ h. ap (λ x. is_text x m.name) ((bytes_eq-Decides n a).0 h) ∙ is) (more i (back (place_in ms a) i e) typed)

put_each : (ms : List Member) (items : List ℤ) (held : List Bool) (i : ℕ) (a : Name) (t : CType) (z : ℤ) (n : Name)
    → place_in ms a ≡ Some i → type_in ms a ≡ Some t → length ms ≤ length items → length ms ≤ length held
    → held_in ms (set items i z) (set held i true) n ≡ put a (stored t z) (held_in ms items held) n
put_each [] items held i a t z n e typed h k = absurd (cc)
put_each (m ∷ ms) [] held i a t z n e typed h k = absurd (omega arith)
put_each (m ∷ ms) (y ∷ ys) [] i a t z n e typed h k = absurd (omega arith)
put_each (m ∷ ms) (y ∷ ys) (b ∷ bs) i a t z n e typed h k =
    put_at m ms y ys b bs i a t z n (is_text a m.name) refl e typed
    (λ j f g. put_each ms ys bs j a t z n f g (omega arith) (omega arith))

pub put_is : (ms : List Member) (items : List ℤ) (held : List Bool) (i : ℕ) (a : Name) (t : CType) (z : ℤ)
    → place_in ms a ≡ Some i → type_in ms a ≡ Some t → length ms ≤ length items → length ms ≤ length held
    → held_in ms (set items i z) (set held i true) ≡ put a (stored t z) (held_in ms items held)
put_is ms items held i a t z e typed h k = fun_ext (λ n. put_each ms items held i a t z n e typed h k)

-- the argument at a place, and its type
pub record Placed (ms : List Member) (a : Name) (i : ℕ) : Type 0 where
  pub member : Member
  pub is : slice_get ms i ≡ Some member
  pub typed : type_in ms a ≡ Some member.ctype
  pub within : i < length ms

placed_by : (m : Member) (ms : List Member) (a : Name) (i : ℕ) (c : Bool) → is_text a m.name ≡ c
    → cond c (Some 0) (option_map suc (place_in ms a)) ≡ Some i → ((j : ℕ) → place_in ms a ≡ Some j → Placed ms a j)
    → Placed (m ∷ ms) a i
placed_by m ms a zero true t e more =
    record { member = m; is = refl; typed = ap (λ b. cond b (Some m.ctype) (type_in ms a)) t; within = omega arith }
placed_by m ms a (suc i) true t e more = absurd (let l = of_some 0 (suc i) e in omega arith)
placed_by m ms a zero false t e more = absurd (never (place_in ms a) e)
placed_by m ms a (suc i) false t e more =
    let h = more i (back (place_in ms a) i e) in
    let k = h.within in
    record {
      member = h.member;
      is = h.is;
      typed = ap (λ b. cond b (Some m.ctype) (type_in ms a)) t ∙ h.typed;
      within =
          omega arith;
    }

pub placed : (ms : List Member) (a : Name) (i : ℕ) → place_in ms a ≡ Some i → Placed ms a i
placed [] a i e = absurd (cc)
placed (m ∷ ms) a i e = placed_by m ms a i (is_text a m.name) refl e (placed ms a)

not_placed_by : (t : CType) (c : Bool) (o : Option ℕ) (p : Option CType) → (o ≡ None → p ≡ None)
    → cond c (Some 0) (option_map suc o) ≡ None → cond c (Some t) p ≡ None
not_placed_by t true o p more e = absurd (cc)
not_placed_by t false None p more e = more refl
not_placed_by t false (Some k) p more e = absurd (cc)

pub not_placed : (ms : List Member) (a : Name) → place_in ms a ≡ None → type_in ms a ≡ None
not_placed [] a e = refl
not_placed (m ∷ ms) a e = not_placed_by m.ctype (is_text a m.name) (place_in ms a) (type_in ms a) (not_placed ms a) e

pub assign_some : (ms : List Member) (items : List ℤ) (held : List Bool) (i : ℕ) (a : Name) (number : ℤ)
    → place_in ms a ≡ Some i → length ms ≤ length items → length ms ≤ length held
    → Some (held_in ms (set items i number) (set held i true))
    ≡ option_map (λ t. put a (stored t number) (held_in ms items held)) (type_in ms a)
assign_some ms items held i a number e h k =
    let p = placed ms a i e in
    ap (λ f. Some f) (put_is ms items held i a p.member.ctype number e p.typed h k)
    ∙ sym (ap (option_map (λ t. put a (stored t number) (held_in ms items held))) p.typed)

-- ---- what is handed over
own_name : (n a : Name) (b : Bool) (w o : Option ℤ) → is_text n a ≡ b → a ≢ n → cond b w o ≡ o
own_name n a true w o e differ = absurd (differ (sym ((bytes_eq-Decides n a).0 e)))
own_name n a false w o e differ = refl

read_at : (ms : List Member) (k : ℕ) (m d : Member) → slice_get ms k ≡ Some m → get_or ms k d ≡ m
read_at [] k m d e = absurd (cc)
read_at (x ∷ xs) zero m d e = ap (λ o. unwrap_or o x) e
read_at (x ∷ xs) (suc k) m d e = read_at xs k m d e

pub inside : (ms : List Member) (k : ℕ) (m : Member) → slice_get ms k ≡ Some m → k < length ms
inside [] k m e = absurd (cc)
inside (x ∷ xs) zero m e = omega arith
inside (x ∷ xs) (suc k) m e = let h = inside xs k m e in omega arith

held_own : (ms : List Member) (items : List ℤ) (held : List Bool) (k : ℕ) (m : Member)
    → AllPairs (λ (a b : Member). a.name ≢ b.name) ms → slice_get ms k ≡ Some m → length ms ≤ length items
    → length ms ≤ length held
    → held_in ms items held m.name ≡ unless_lost (get_or held k false) (stored m.ctype (get_or items k (pos 0)))
held_own [] items held k m differ e h l = absurd (cc)
held_own (x ∷ xs) [] held k m differ e h l = absurd (omega arith)
held_own (x ∷ xs) (z ∷ zs) [] k m differ e h l = absurd (omega arith)
held_own (x ∷ xs) (z ∷ zs) (b ∷ bs) zero m differ e h l =
    let is : x ≡ m = ap (λ o. unwrap_or o x) e in
    ap (λ c. cond c (unless_lost b (stored x.ctype z)) (held_in xs zs bs m.name))
    ((bytes_eq-Decides m.name x.name).1 (sym (ap (λ (y : Member). y.name) is)))
    ∙ ap (λ (y : Member). unless_lost b (stored y.ctype z)) is
held_own (x ∷ xs) (z ∷ zs) (b ∷ bs) (suc k) m differ e h l =
    let first : x.name ≢ m.name =
    subst (λ (y : Member). x.name ≢ y.name) (read_at xs k m x e)
    (differ 0 (suc k) x (omega arith) (let w = inside xs k m e in omega arith)) in
    own_name m.name x.name (is_text m.name x.name) (unless_lost b (stored x.ctype z)) (held_in xs zs bs m.name) refl
    first
    ∙ held_own xs zs bs k m (λ i j d lt le. differ (suc i) (suc j) d (omega arith) (omega arith)) e (omega arith)
    (omega arith)

all_taken : (f : Member → Option ℤ) (ms : List Member) (out : List ℤ) → length ms ≤ length out
    → ((k : ℕ) (m : Member) → slice_get ms k ≡ Some m → f m ≡ Some (get_or out k (pos 0)))
    → all_values (map f ms) ≡ Some (take (length ms) out)
all_taken f [] out le h = refl
all_taken f (m ∷ ms) [] le h = absurd (omega arith)
all_taken f (m ∷ ms) (z ∷ zs) le h =
    ap (option_and_then (λ x. option_map (λ xs. x ∷ xs) (all_values (map f ms)))) (h 0 m refl)
    ∙ ap (option_map (λ xs. z ∷ xs)) (all_taken f ms zs (omega arith) (λ k x e. h (suc k) x e))

none_after : (o : Option ℤ) → option_and_then (λ x. option_map (λ xs. x ∷ xs) None) o ≡ None
none_after None = refl
none_after (Some x) = refl

one_lost : (f : Member → Option ℤ) (ms : List Member) (k : ℕ) (m : Member) → slice_get ms k ≡ Some m → f m ≡ None
    → all_values (map f ms) ≡ None
one_lost f [] k m e h = absurd (cc)
one_lost f (x ∷ xs) zero m e h =
    ap (option_and_then (λ y. option_map (λ ys. y ∷ ys) (all_values (map f xs)))) (ap f (ap (λ o. unwrap_or o x) e) ∙ h)
one_lost f (x ∷ xs) (suc k) m e h =
    ap (λ r. option_and_then (λ y. option_map (λ ys. y ∷ ys) r) (f x)) (one_lost f xs k m e h) ∙ none_after (f x)

some_at : (ms : List Member) (k : ℕ) → k < length ms → (m : Member) × (slice_get ms k ≡ Some m)
some_at [] k h = absurd (omega arith)
some_at (x ∷ xs) zero h = (x, refl)
some_at (x ∷ xs) (suc k) h = some_at xs k (omega arith)

number_at : (t : CType) (items out : List ℤ) (k : ℕ) → k < length items → k < length out
    → slice_get out k ≡ option_map (stored t) (slice_get items k)
    → get_or out k (pos 0) ≡ stored t (get_or items k (pos 0))
number_at t items out k h l e =
    let one : slice_get items k ≡ Some (get_or items k (pos 0)) = slice_get-get_or items k (pos 0) h in
    let other : slice_get out k ≡ Some (get_or out k (pos 0)) = slice_get-get_or out k (pos 0) l in
    ap (λ o. unwrap_or o (pos 0)) (sym other ∙ e ∙ ap (option_map (stored t)) one)

module _ (ms : List Member) (items : List ℤ) (held : List Bool)
    (differ : AllPairs (λ (a b : Member). a.name ≢ b.name) ms) (h : length ms ≤ length items)
    (l : length ms ≤ length held)
  where
    pub handed_none : (k : ℕ) → k < length ms → get_or held k false ≡ false
        → all_values (map (λ m. held_in ms items held m.name) ms) ≡ None
    handed_none k within lost =
        let p = some_at ms k within in
        one_lost (λ m. held_in ms items held m.name) ms k p.0 p.1
        (held_own ms items held k p.0 differ p.1 h l
        ∙ ap (λ b. unless_lost b (stored p.0.ctype (get_or items k (pos 0)))) lost)

    pub handed_all : (out : List ℤ) → length ms ≤ length out → AreStored ms items out
        → ((k : ℕ) → k < length ms → get_or held k false ≡ true)
        → all_values (map (λ m. held_in ms items held m.name) ms) ≡ Some (take (length ms) out)
    handed_all out le stored_out all =
        all_taken (λ m. held_in ms items held m.name) ms out le
        (λ k m e. held_own ms items held k m differ e h l
        ∙ ap (λ b. unless_lost b (stored m.ctype (get_or items k (pos 0)))) (all k (inside ms k m e))
        ∙ ap (λ z. Some z) (sym (number_at m.ctype items out k (let w = inside ms k m e in omega arith) (let w =
        inside ms k m e in omega arith) (stored_out k m e))))
