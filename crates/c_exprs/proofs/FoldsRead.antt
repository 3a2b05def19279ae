-- Deposits are read exactly.
use Rattle.std.proofs.Common.{◌≡◌, ℕ, zero, suc, ◌<◌, ◌^◌, List, [], ◌∷◌, ◌++◌, length, Bool, true, false, Option}
use Rattle.std.proofs.Common.{Some, option_map, option_and_then, refl, sym, ap, subst, ◌∙◌, arith, append_assoc}
use Rattle.std.proofs.Common.{append-nil, length-append}
use Rattle.std.specs.Prelude.{decimal, flat_map}
use Rattle.std.specs.List.{AllByRecursion}
use Rattle.dt_values.specs.declared.width.Width.{Width}
use Rattle.c_tokens.specs.Tokens.{Token, word}
use Rattle.c_tokens.specs.Marks.{close_round, comma}
use Rattle.c_tokens.specs.Parsing.{Parse, after, begins, turn, then_each}
use Rattle.c_tokens.proofs.Exact.{Reads, Any, Stops, Starts, bind_some, map_some, some_is, begins_again, behind_reads}
use Rattle.c_tokens.proofs.Exact.{closed_reads, both_reads, then_each_reads, Made, made_reads, known_reads, found_reads}
use Rattle.c_tokens.proofs.Exact.{many_reads}
use Rattle.c_exprs.specs.Exprs.{Term, constant, segment, deposit, cast, function, applied}
use Rattle.c_exprs.specs.Spelling.{expr_spelled}
use Rattle.c_exprs.specs.ExprParsing.{deposit_open, Placed, placed_at, opening_at, openings_at, times, deposited}
use Rattle.c_exprs.specs.ExprParsing.{FoldParts, fold_of, folded_at, fold_at}
use Rattle.c_exprs.proofs.Fits.{IsSegment, IsFold}
use Rattle.c_exprs.proofs.SegmentsRead.{number_reads, segment_reads}

-- so many items
abbrev put_first : {A : Type 0} → A → List A × List Token → List A × List Token
put_first x y = (x ∷ y.0, y.1)

abbrev and_more : {A : Type 0} → Parse (List A) → A × List Token → Option (List A × List Token)
and_more more x = option_map (put_first x.0) (more x.1)

times_again : {A : Type 0} {P : A → Type 0} {sp : A → List Token} {p : Parse A} → Reads Any P sp p
    → (n : ℕ) (xs : List A) (rest : List Token) → AllByRecursion P xs → length xs ≡ n
    → times n p (flat_map sp xs ++ rest) ≡ Some (xs, rest)
unfolding times
times_again r zero [] rest h k = refl
times_again r zero (x ∷ xs) rest h k = absurd (omega (arith, k))
times_again r (suc n) [] rest h k = absurd (omega (arith, k))
times_again {A} {P} {sp} {p} r (suc n) (x ∷ xs) rest h k =
    let left = flat_map sp xs ++ rest in
    let fewer : length xs ≡ n = omega (arith, k) in
    ap (turn p (times n p)) (append_assoc (sp x) (flat_map sp xs) rest)
    ∙ ap (option_and_then (and_more (times n p))) (r.again x left h.0 tt)
    ∙ ap (option_map (put_first x)) (times_again r n xs rest h.1 fewer)

abbrev SoMany : {A : Type 0} → (A → Type 0) → ℕ → List A → Type 0
SoMany P n xs = AllByRecursion P xs × (length xs ≡ n)

times_sound : {A : Type 0} {P : A → Type 0} {sp : A → List Token} {p : Parse A} → Reads Any P sp p
    → (n : ℕ) (ts : List Token) (xs : List A) (rest : List Token) → times n p ts ≡ Some (xs, rest)
    → SoMany P n xs × (ts ≡ flat_map sp xs ++ rest)
unfolding times
times_sound {A} {P} {sp} {p} r zero ts xs rest e =
    let C : List A × List Token → Type 0 = λ v. SoMany P zero v.0 × (ts ≡ flat_map sp v.0 ++ v.1) in
    subst C (some_is ([], ts) (xs, rest) e) ((tt, refl), refl)
times_sound {A} {P} {sp} {p} r (suc n) ts xs rest e =
    let C : List A × List Token → Type 0 = λ v. SoMany P (suc n) v.0 × (ts ≡ flat_map sp v.0 ++ v.1) in
    let b = bind_some (and_more (times n p)) (p ts) (xs, rest) e in
    let m = map_some (put_first b.0.0) (times n p b.0.1) (xs, rest) b.2 in
    let s = r.sound ts b.0.0 b.0.1 b.1 in
    let t = times_sound r n b.0.1 m.0.0 m.0.1 m.1 in
    let more : length (b.0.0 ∷ m.0.0) ≡ suc n = omega (arith, t.0.1) in
    subst C m.2 (
      ((s.0, t.0.0), more),
      s.1 ∙ ap (λ l. sp b.0.0 ++ l) t.1 ∙ sym (append_assoc (sp b.0.0) (flat_map sp m.0.0) m.0.1),
    )

pub times_reads : {A : Type 0} {P : A → Type 0} {sp : A → List Token} {p : Parse A} (n : ℕ) → Reads Any P sp p
    → Reads Any (SoMany P n) (flat_map sp) (times n p)
times_reads n r = record {
  again = λ xs rest h k. times_again r n xs rest h.0 h.1;
  sound = λ ts xs rest e. times_sound r n ts xs rest e;
}

-- what opens deposits
abbrev opening : Width → Unit {0} → List Token
opening w o = deposit_open w

starts_opening : (w : Width) → Starts (λ (o : Unit {0}). o ≡ tt) (opening w) (begins (deposit_open w))
starts_opening w = record {
  first = λ o rest h. begins_again (deposit_open w) rest;
  some = λ o h. omega arith;
}

pub opening_reads : (w : Width) → Reads Any (λ o. o ≡ tt) (opening w) (opening_at w)
unfolding opening_at
opening_reads w = known_reads (λ o h. h) (λ o h. h) (λ o h. refl) (behind_reads (deposit_open w) (found_reads tt))

openings_reads : (w : Width)
    → Reads (Stops (begins (deposit_open w))) (AllByRecursion (λ o. o ≡ tt)) (flat_map (opening w)) (openings_at w)
unfolding openings_at
openings_reads w = many_reads (begins (deposit_open w)) (starts_opening w) (opening_reads w)

-- what stands behind the first part
abbrev PlacedFits : Bool → Placed → Type 0
PlacedFits in_decoder x = (x.0 < 2 ^ 32) × ((x.1.0 < 2 ^ 32) × IsSegment in_decoder x.1.1)

abbrev placed_spelled : Width → Placed → List Token
placed_spelled w x =
    (comma ∷ word (decimal x.0) ∷ comma ∷ word (decimal x.1.0) ∷ comma ∷ [])
    ++ (expr_spelled w x.1.1 ++ close_round ∷ [])

placed_reads : (in_decoder : Bool) (w : Width)
    → Reads Any (PlacedFits in_decoder) (placed_spelled w) (placed_at in_decoder w)
unfolding placed_at
placed_reads in_decoder w =
    known_reads (λ x h. h) (λ x h. h) (λ x h. refl)
    (behind_reads (comma ∷ []) (both_reads (λ y rest h k. tt) number_reads
    (behind_reads (comma ∷ []) (both_reads (λ y rest h k. tt) number_reads
    (behind_reads (comma ∷ []) (closed_reads (close_round ∷ []) (λ rest. tt) (segment_reads in_decoder w)))))))

abbrev InnerFits : Bool → List (Unit {0}) → Term × List Placed → Type 0
InnerFits in_decoder os x = IsSegment in_decoder x.0 × SoMany (PlacedFits in_decoder) (length os) x.1

abbrev inner_spelled : Width → Term × List Placed → List Token
inner_spelled w x = expr_spelled w x.0 ++ flat_map (placed_spelled w) x.1

folded_reads : (in_decoder : Bool) (w : Width) (os : List (Unit {0}))
    → Reads Any (InnerFits in_decoder os) (inner_spelled w) (folded_at in_decoder w os)
unfolding folded_at
folded_reads in_decoder w os =
    both_reads (λ y rest h k. tt) (segment_reads in_decoder w) (times_reads (length os) (placed_reads in_decoder w))

abbrev PartsFit : Bool → FoldParts → Type 0
PartsFit in_decoder x = AllByRecursion (λ (o : Unit {0}). o ≡ tt) x.0 × InnerFits in_decoder x.0 x.1

abbrev parts_spelled : Width → FoldParts → List Token
parts_spelled w x = flat_map (opening w) x.0 ++ inner_spelled w x.1

no_deposit : (w : Width) (in_decoder : Bool) (e : Term) (rest : List Token) → IsSegment in_decoder e
    → begins (deposit_open w) (expr_spelled w e ++ rest) ≡ false
unfolding begins after
no_deposit w in_decoder (constant z) rest h = absurd h
no_deposit w in_decoder (segment true from place length) rest h = refl
no_deposit w in_decoder (segment false from place length) rest h = refl
no_deposit w in_decoder (deposit e p l s) rest h = absurd h
no_deposit w in_decoder (cast e) rest h = absurd h
no_deposit w in_decoder (function f) rest h = absurd h
no_deposit w in_decoder (applied f e) rest h = absurd h

opened_ends : (w : Width) (in_decoder : Bool) (os : List (Unit {0})) (x : Term × List Placed) (rest : List Token)
    → InnerFits in_decoder os x → Any rest → Stops (begins (deposit_open w)) (inner_spelled w x ++ rest)
opened_ends w in_decoder os x rest h k =
    ap (begins (deposit_open w)) (append_assoc (expr_spelled w x.0) (flat_map (placed_spelled w) x.1) rest)
    ∙ no_deposit w in_decoder x.0 (flat_map (placed_spelled w) x.1 ++ rest) h.0

parts_reads : (in_decoder : Bool) (w : Width)
    → Reads Any (PartsFit in_decoder) (parts_spelled w)
    (then_each (openings_at w) (folded_at in_decoder w))
parts_reads in_decoder w =
    then_each_reads (opened_ends w in_decoder) (openings_reads w) (λ os h. folded_reads in_decoder w os)

-- the spelling of a fold is that of its parts: what opens it moves to the front
opening_moves : (w : Width) (os : List (Unit {0}))
    → flat_map (opening w) os ++ deposit_open w ≡ deposit_open w ++ flat_map (opening w) os
opening_moves w [] = refl
opening_moves w (o ∷ os) =
    append_assoc (deposit_open w) (flat_map (opening w) os) (deposit_open w)
    ∙ ap (λ l. deposit_open w ++ l) (opening_moves w os)

turned : (front more first part rest : List Token) → more ++ front ≡ front ++ more
    → more ++ ((front ++ (first ++ part)) ++ rest) ≡ (front ++ more) ++ (first ++ (part ++ rest))
turned front more first part rest e =
    ap (λ l. more ++ l) (append_assoc front (first ++ part) rest ∙ ap (λ l. front ++ l) (append_assoc first part rest))
    ∙ sym (append_assoc more front (first ++ (part ++ rest)))
    ∙ ap (λ l. l ++ (first ++ (part ++ rest))) e

fold_spelled : (w : Width) (os : List (Unit {0})) (e : Term) (xs : List Placed) → length xs ≡ length os
    → expr_spelled w (deposited e xs) ≡ parts_spelled w (os, (e, xs))
fold_spelled w [] e [] h = sym (append-nil (expr_spelled w e))
fold_spelled w [] e (x ∷ xs) h = absurd (omega (arith, h))
fold_spelled w (o ∷ os) e [] h = absurd (omega (arith, h))
fold_spelled w (o ∷ os) e (x ∷ xs) h =
    let fewer : length xs ≡ length os = omega (arith, h) in
    fold_spelled w os (deposit e x.0 x.1.0 x.1.1) xs fewer
    ∙ turned (deposit_open w) (flat_map (opening w) os) (expr_spelled w e) (placed_spelled w x)
    (flat_map (placed_spelled w) xs) (opening_moves w os)

-- a fold has parts
deposited_last : (e : Term) (xs : List Placed) (p l : ℕ) (s : Term)
    → deposited e (xs ++ (p, (l, s)) ∷ []) ≡ deposit (deposited e xs) p l s
deposited_last e [] p l s = refl
deposited_last e (x ∷ xs) p l s = deposited_last (deposit e x.0 x.1.0 x.1.1) xs p l s

all_last : {A : Type 0} (P : A → Type 0) (xs : List A) (x : A) → AllByRecursion P xs → P x
    → AllByRecursion P (xs ++ x ∷ [])
all_last P [] x h k = (k, tt)
all_last P (y ∷ xs) x h k = (h.0, all_last P xs x h.1 k)

fold_there : (in_decoder : Bool) (e : Term) → IsFold in_decoder e → Made fold_of (PartsFit in_decoder) e
fold_there in_decoder (constant z) h = absurd h
fold_there in_decoder (segment s from place length) h =
    (([], (segment s from place length, [])), (tt, (h, (tt, refl))), refl)
fold_there in_decoder (deposit e p l s) h =
    let a = fold_there in_decoder e h.0 in
    let os = a.0.0 in
    let xs = a.0.1.1 in
    let x : Placed = (p, (l, s)) in
    let fits = all_last (PlacedFits in_decoder) xs x a.1.1.1.0 (h.1, (h.2, h.3)) in
    let many : length (xs ++ x ∷ []) ≡ length (tt ∷ os) = omega (arith, a.1.1.1.1, length-append xs (x ∷ [])) in (
      (tt ∷ os, (a.0.1.0, xs ++ x ∷ [])),
      ((refl, a.1.0), (a.1.1.0, (fits, many))),
      deposited_last a.0.1.0 xs p l s ∙ ap (λ d. deposit d p l s) a.2,
    )
fold_there in_decoder (cast e) h = absurd h
fold_there in_decoder (function f) h = absurd h
fold_there in_decoder (applied f e) h = absurd h

pub segment_fold : (in_decoder : Bool) (e : Term) → IsSegment in_decoder e → IsFold in_decoder e
segment_fold in_decoder (constant z) h = absurd h
segment_fold in_decoder (segment s from place length) h = h
segment_fold in_decoder (deposit e p l s) h = absurd h
segment_fold in_decoder (cast e) h = absurd h
segment_fold in_decoder (function f) h = absurd h
segment_fold in_decoder (applied f e) h = absurd h

deposited_fits : (in_decoder : Bool) (e : Term) (xs : List Placed) → IsFold in_decoder e
    → AllByRecursion (PlacedFits in_decoder) xs → IsFold in_decoder (deposited e xs)
deposited_fits in_decoder e [] h k = h
deposited_fits in_decoder e (x ∷ xs) h k =
    deposited_fits in_decoder (deposit e x.0 x.1.0 x.1.1) xs (h, k.0.0, k.0.1.0, k.0.1.1) k.1

fold_back : (in_decoder : Bool) (e : Term) → Made fold_of (PartsFit in_decoder) e → IsFold in_decoder e
fold_back in_decoder e h =
    let x = h.0 in
    let first = segment_fold in_decoder x.1.0 h.1.1.0 in
    subst (IsFold in_decoder) h.2 (deposited_fits in_decoder x.1.0 x.1.1 first h.1.1.1.0)

pub fold_reads : (in_decoder : Bool) (w : Width)
    → Reads Any (IsFold in_decoder) (expr_spelled w) (fold_at in_decoder w)
unfolding fold_at
fold_reads in_decoder w =
    known_reads (fold_there in_decoder) (fold_back in_decoder) (λ e h. refl)
    (made_reads fold_of (expr_spelled w) (λ x h. fold_spelled w x.0 x.1.0 x.1.1 h.1.1.1) (parts_reads in_decoder w))
