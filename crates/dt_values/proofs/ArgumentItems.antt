-- The items of arguments, one by one: each in the range of its type, and zeros behind them.
use Rattle.std.proofs.Common.{◌≡◌, ◌≢◌, ℕ, zero, suc, ◌+◌, ◌-◌, ◌<◌, ◌≤◌, true, false, cond, List, [], ◌∷◌, ◌++◌, length, get_or, set, take, drop, replicate, ℤ, pos, Some, refl, ap, ap₂, sym, ◌∙◌, arith, add-one, below_more}
use Rattle.std.specs.Prelude.{slice_get, unwrap_or}
use Rattle.std.proofs.lemmas.List.{get_or-set_same, get_or-set_other, length-take-le}
use Rattle.dt_values.specs.Held.{held_by}
use Rattle.dt_values.specs.Ranges.{in_range, fits_member}
use Rattle.dt_values.specs.Stored.{stored}
use Rattle.dt_values.specs.Types.{is_text}
use Rattle.dt_values.specs.declared.ctype.Member.{Member}

-- ---- zeros
zero_at : (n k : ℕ) → get_or (replicate {A = ℤ} n (pos 0)) k (pos 0) ≡ pos 0
zero_at zero k = refl
zero_at (suc n) zero = refl
zero_at (suc n) (suc k) = zero_at n k

pub zeros : (items : List ℤ) → items ≡ replicate {A = ℤ} 32 (pos 0) → (k : ℕ) → get_or items k (pos 0) ≡ pos 0
zeros items e k = ap (λ l. get_or l k (pos 0)) e ∙ zero_at 32 k

zeros_alone : (items : List ℤ) → ((k : ℕ) → get_or items k (pos 0) ≡ pos 0) → items ≡ replicate (length items) (pos 0)
zeros_alone [] h = refl
zeros_alone (z ∷ zs) h = ap₂ (λ x xs. x ∷ xs) (h 0) (zeros_alone zs (λ k. h (suc k)))

zeros_after : (n : ℕ) (items : List ℤ) → n ≤ length items → ((k : ℕ) → n ≤ k → get_or items k (pos 0) ≡ pos 0)
    → items ≡ take n items ++ replicate (length items - n) (pos 0)
zeros_after zero items le h =
    let e : length items ≡ length items - 0 = omega arith in
    zeros_alone items (λ k. h k (omega arith)) ∙ ap (λ k. replicate k (pos 0)) e
zeros_after (suc n) [] le h = absurd (omega arith)
zeros_after (suc n) (z ∷ zs) le h =
    let e : length zs - n ≡ suc (length zs) - suc n = omega arith in
    ap (λ l. z ∷ l) (zeros_after n zs (omega arith) (λ k le. h (suc k) (omega arith)) ∙ ap (λ k. take n zs ++ replicate k (pos 0)) e)

-- all 32 items are those of the arguments, and zeros
pub items_split : (n : ℕ) (items : List ℤ) → n ≤ 32 → length items ≡ 32 → ((k : ℕ) → n ≤ k → get_or items k (pos 0) ≡ pos 0)
    → items ≡ take n items ++ replicate (32 - length (take n items)) (pos 0)
items_split n items few long h =
    zeros_after n items (omega arith) h
    ∙ ap (λ k. take n items ++ replicate k (pos 0)) (ap₂ (λ a b. a - b) long (sym (length-take-le n items (omega arith))))

-- ---- one item more
pub one_more : (ms : List Member) (items : List ℤ) (i : ℕ) (m : Member) (z : ℤ) → i < length items → slice_get ms i ≡ Some m → in_range m.ctype z ≡ true
    → ((k : ℕ) → k < i → fits_member (slice_get ms k) (get_or items k (pos 0)) ≡ true)
    → (k : ℕ) → k < i + 1 → fits_member (slice_get ms k) (get_or (set items i z) k (pos 0)) ≡ true
one_more ms items i m z within is fits have =
    below_more (λ k. fits_member (slice_get ms k) (get_or (set items i z) k (pos 0)) ≡ true) i
    (λ k h. let other : k ≢ i = omega arith in ap (fits_member (slice_get ms k)) (get_or-set_other items i k z (pos 0) other) ∙ have k h)
    (ap₂ fits_member is (get_or-set_same items i z (pos 0) within) ∙ fits)

pub zeros_behind : (items : List ℤ) (i : ℕ) (z : ℤ) → ((k : ℕ) → i ≤ k → get_or items k (pos 0) ≡ pos 0)
    → (k : ℕ) → i + 1 ≤ k → get_or (set items i z) k (pos 0) ≡ pos 0
zeros_behind items i z have k h =
    let other : k ≢ i = omega arith in get_or-set_other items i k z (pos 0) other ∙ have k (omega arith)

pub one_stored : (ms : List Member) (numbers items : List ℤ) (i : ℕ) (m : Member) (z : ℤ) → i < length items → slice_get ms i ≡ Some m → z ≡ stored m.ctype (get_or numbers i (pos 0))
    → ((k : ℕ) → k < i → (m : Member) → slice_get ms k ≡ Some m → get_or items k (pos 0) ≡ stored m.ctype (get_or numbers k (pos 0)))
    → (k : ℕ) → k < i + 1 → (m : Member) → slice_get ms k ≡ Some m → get_or (set items i z) k (pos 0) ≡ stored m.ctype (get_or numbers k (pos 0))
one_stored ms numbers items i m z within is same have =
    below_more (λ k. (m : Member) → slice_get ms k ≡ Some m → get_or (set items i z) k (pos 0) ≡ stored m.ctype (get_or numbers k (pos 0))) i
    (λ k h n e. let other : k ≢ i = omega arith in get_or-set_other items i k z (pos 0) other ∙ have k h n e)
    (λ n e. get_or-set_same items i z (pos 0) within ∙ same ∙ ap (λ (x : Member). stored x.ctype (get_or numbers i (pos 0))) (ap (λ o. unwrap_or o m) (sym is ∙ e)))

-- ---- one argument is assigned
pub fits_set : (ms : List Member) (items : List ℤ) (i : ℕ) (m : Member) (z : ℤ) → slice_get ms i ≡ Some m → in_range m.ctype z ≡ true
    → ((k : ℕ) → fits_member (slice_get ms k) (get_or items k (pos 0)) ≡ true)
    → (k : ℕ) → fits_member (slice_get ms k) (get_or (set items i z) k (pos 0)) ≡ true
fits_set [] items i m z is fits have k = refl
fits_set (x ∷ xs) [] i m z is fits have k = have k
fits_set (x ∷ xs) (y ∷ ys) zero m z is fits have zero = ap (λ (w : Member). in_range w.ctype z) (ap (λ o. unwrap_or o x) is) ∙ fits
fits_set (x ∷ xs) (y ∷ ys) zero m z is fits have (suc k) = have (suc k)
fits_set (x ∷ xs) (y ∷ ys) (suc i) m z is fits have zero = have zero
fits_set (x ∷ xs) (y ∷ ys) (suc i) m z is fits have (suc k) = fits_set xs ys i m z is fits (λ k. have (suc k)) k

pub zeros_set : (n : ℕ) (items : List ℤ) (i : ℕ) (z : ℤ) → i < n → ((k : ℕ) → n ≤ k → get_or items k (pos 0) ≡ pos 0)
    → (k : ℕ) → n ≤ k → get_or (set items i z) k (pos 0) ≡ pos 0
zeros_set n items i z h have k le =
    let other : k ≢ i = omega arith in get_or-set_other items i k z (pos 0) other ∙ have k le

-- ---- an argument is found by its name
after_other : (ms : List Member) (items : List ℤ) (name : List ℕ) (i : ℕ) (m : Member) → i < length ms → i < length items → m ≡ get_or ms i m → is_text name m.name ≡ false
    → held_by (drop (suc i) ms) (drop (suc i) items) name ≡ held_by (drop i ms) (drop i items) name
after_other [] items name i m h k is e = absurd (omega arith)
after_other (x ∷ xs) [] name i m h k is e = absurd (omega arith)
after_other (x ∷ xs) (z ∷ zs) name zero m h k is e = sym (ap (λ b. cond b z (held_by xs zs name)) (ap (λ (y : Member). is_text name y.name) (sym is) ∙ e))
after_other (x ∷ xs) (z ∷ zs) name (suc i) m h k is e = after_other xs zs name i m (omega arith) (omega arith) is e

-- an argument of another name is passed over
pub held_after : (ms : List Member) (items : List ℤ) (name : List ℕ) (i : ℕ) (m : Member) → i < length ms → i < length items → m ≡ get_or ms i m → is_text name m.name ≡ false
    → held_by (drop (i + 1) ms) (drop (i + 1) items) name ≡ held_by (drop i ms) (drop i items) name
held_after ms items name i m h k is e = ap (λ j. held_by (drop j ms) (drop j items) name) (add-one i) ∙ after_other ms items name i m h k is e
