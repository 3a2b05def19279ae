-- What it is that a reader reads exactly what is spelled, and how that goes through the ways to put readers together.
use Rattle.std.proofs.Common.{◌≡◌, ℕ, zero, suc, ◌<◌, List, [], ◌∷◌, ◌++◌, length, Bool, true, false, cond, ◌&&◌, Option, Some, None, option_map, option_and_then, refl, sym, ap, subst, ◌∙◌, arith, append_assoc, length-append, ◌⊎◌, inl, inr}
use Rattle.std.specs.Prelude.{nat_eq, flat_map, IsTrue, is_some}
use Rattle.std.specs.List.{AllByRecursion}
use Rattle.std.specs.Cmp.Lexicographic.{pointwise}
use Rattle.std.proofs.lemmas.Bool.Decides.{nat_tests}
use Rattle.c_tokens.specs.Tokens.{Token, word, mark, double_equals, arrow}
use Rattle.c_tokens.specs.Parsing.{Parse, same_token, after, begins, behind, closed, then_each, both, made, choose, word_as, nothing, found, passes, guarded, turn, many_at, many, tried}

-- p reads x, of those with P, exactly where sp x stands, wherever what stands behind it has F
pub record Reads {A : Type 0} (F : List Token → Type 0) (P : A → Type 0) (sp : A → List Token) (p : Parse A) : Type 0 where
  pub again : (x : A) (rest : List Token) → P x → F rest → p (sp x ++ rest) ≡ Some (x, rest)
  pub sound : (ts : List Token) (x : A) (rest : List Token) → p ts ≡ Some (x, rest) → P x × (ts ≡ sp x ++ rest)

abbrev pub Any : List Token → Type 0
Any rest = Unit {0}

-- steps that did not fail
pub bind_some : {A B : Type 0} (f : A → Option B) (o : Option A) (y : B) → option_and_then f o ≡ Some y → (x : A) × (o ≡ Some x) × (f x ≡ Some y)
bind_some f None y e = absurd cc
bind_some f (Some x) y e = (x, refl, e)

pub none_not : IsTrue false → ⊥
none_not h = let k : false ≡ true = h in cc

pub some_is : {A : Type 0} (x y : A) → Some x ≡ Some y → x ≡ y
some_is x y e = cc

pub map_some : {A B : Type 0} (f : A → B) (o : Option A) (y : B) → option_map f o ≡ Some y → (x : A) × (o ≡ Some x) × (f x ≡ y)
map_some f None y e = absurd cc
map_some f (Some x) y e = (x, refl, some_is (f x) y e)

pub cond_cases : {A : Type 0} (b : Bool) (x y z : A) → cond b x y ≡ z → ((b ≡ true) × (x ≡ z)) ⊎ ((b ≡ false) × (y ≡ z))
cond_cases true x y z e = inl (refl, e)
cond_cases false x y z e = inr (refl, e)

pub guard_some : {A : Type 0} (b : Bool) (x y : A) → cond b (Some x) None ≡ Some y → (b ≡ true) × (x ≡ y)
guard_some true x y e = (refl, some_is x y e)
guard_some false x y e = absurd cc

-- tokens alike are one
pub bytes_self : (v : List ℕ) → pointwise nat_eq v v ≡ true
bytes_self [] = refl
bytes_self (x ∷ v) = let h : pointwise nat_eq v v ≡ true = bytes_self v in let k : nat_eq x x ≡ true = grind (arith, nat_tests) in rw (k, h) refl

eq_is : (x y : ℕ) → nat_eq x y ≡ true → x ≡ y
eq_is x y h = grind (arith, nat_tests)

both_true : (a b : Bool) → (a && b) ≡ true → (a ≡ true) × (b ≡ true)
both_true true b h = (refl, h)
both_true false b h = absurd cc

pub bytes_are : (v w : List ℕ) → pointwise nat_eq v w ≡ true → v ≡ w
bytes_are [] [] h = refl
bytes_are [] (y ∷ w) h = absurd cc
bytes_are (x ∷ v) [] h = absurd cc
bytes_are (x ∷ v) (y ∷ w) h = let q = both_true (nat_eq x y) (pointwise nat_eq v w) h in let e = eq_is x y q.0 in let f = bytes_are v w q.1 in λ i. e i ∷ f i

token_self : (t : Token) → same_token t t ≡ true
token_self (word v) = bytes_self v
token_self (mark b) = grind (arith, nat_tests)
token_self double_equals = refl
token_self arrow = refl

token_is : (t u : Token) → same_token t u ≡ true → t ≡ u
token_is (word v) (word w) h = ap word (bytes_are v w h)
token_is (word v) (mark c) h = absurd cc
token_is (word v) double_equals h = absurd cc
token_is (word v) arrow h = absurd cc
token_is (mark b) (word w) h = absurd cc
token_is (mark b) (mark c) h = ap mark (eq_is b c h)
token_is (mark b) double_equals h = absurd cc
token_is (mark b) arrow h = absurd cc
token_is double_equals (word w) h = absurd cc
token_is double_equals (mark c) h = absurd cc
token_is double_equals double_equals h = refl
token_is double_equals arrow h = absurd cc
token_is arrow (word w) h = absurd cc
token_is arrow (mark c) h = absurd cc
token_is arrow double_equals h = absurd cc
token_is arrow arrow h = refl

-- fixed runs
pub after_again : (fixed rest : List Token) → after fixed (fixed ++ rest) ≡ Some rest
unfolding after
after_again [] rest = refl
after_again (f ∷ fs) rest = ap (λ b. cond b (after fs (fs ++ rest)) None) (token_self f) ∙ after_again fs rest

pub after_sound : (fixed ts rest : List Token) → after fixed ts ≡ Some rest → ts ≡ fixed ++ rest
unfolding after
after_sound [] ts rest e = some_is ts rest e
after_sound (f ∷ fs) [] rest e = absurd cc
after_sound (f ∷ fs) (t ∷ ts) rest e =
    elim (cond_cases (same_token f t) (after fs ts) None (Some rest) e) [
      | inl h ↦ let same = token_is f t h.0 in let more = after_sound fs ts rest h.1 in λ i. sym same i ∷ more i
      | inr h ↦ absurd (let k : None ≡ Some rest = h.1 in cc)
    ]

pub begins_again : (fixed rest : List Token) → begins fixed (fixed ++ rest) ≡ true
unfolding begins
begins_again fixed rest = ap is_some (after_again fixed rest)

-- a fixed run, and then p
pub behind_reads : {A : Type 0} {F : List Token → Type 0} {P : A → Type 0} {sp : A → List Token} {p : Parse A} (fixed : List Token) → Reads F P sp p → Reads F P (λ x. fixed ++ sp x) (behind fixed p)
behind_reads {A} {F} {P} {sp} {p} fixed r = record {
  again = λ x rest h k. ap (λ ts. option_and_then p (after fixed ts)) (append_assoc fixed (sp x) rest) ∙ ap (option_and_then p) (after_again fixed (sp x ++ rest)) ∙ r.again x rest h k;
  sound = λ ts x rest e.
      let b = bind_some p (after fixed ts) (x, rest) e in
      let s = r.sound b.0 x rest b.2 in
      (s.0, after_sound fixed ts b.0 b.1 ∙ ap (λ l. fixed ++ l) s.1 ∙ sym (append_assoc fixed (sp x) rest));
}

abbrev keep : {A : Type 0} → A → List Token → A × List Token
keep x rest = (x, rest)

abbrev close : {A : Type 0} → List Token → A × List Token → Option (A × List Token)
close fixed x = option_map (keep x.0) (after fixed x.1)

pub closed_reads : {A : Type 0} {F : List Token → Type 0} {P : A → Type 0} {sp : A → List Token} {p : Parse A} (fixed : List Token) → ((rest : List Token) → F (fixed ++ rest)) → Reads F P sp p → Reads Any P (λ x. sp x ++ fixed) (closed p fixed)
closed_reads {A} {F} {P} {sp} {p} fixed follows r = record {
  again = λ x rest h k.
      ap (λ ts. option_and_then (close fixed) (p ts)) (append_assoc (sp x) fixed rest)
      ∙ ap (option_and_then (close fixed)) (r.again x (fixed ++ rest) h (follows rest))
      ∙ ap (option_map (keep x)) (after_again fixed rest);
  sound = λ ts x rest e.
      let b = bind_some (close fixed) (p ts) (x, rest) e in
      let m = map_some (keep b.0.0) (after fixed b.0.1) (x, rest) b.2 in
      let x-is : b.0.0 ≡ x = ap (λ (q : A × List Token). q.0) m.2 in
      let rest-is : m.0 ≡ rest = ap (λ (q : A × List Token). q.1) m.2 in
      let s = r.sound ts b.0.0 b.0.1 b.1 in
      let tail = after_sound fixed b.0.1 m.0 m.1 in
      (subst P x-is s.0, s.1 ∙ ap (λ l. sp b.0.0 ++ l) tail ∙ ap (λ l. sp b.0.0 ++ (fixed ++ l)) rest-is ∙ ap (λ y. sp y ++ (fixed ++ rest)) x-is ∙ sym (append_assoc (sp x) fixed rest));
}

-- p, and then what it says
abbrev pair_with : {A B : Type 0} → A → B × List Token → (A × B) × List Token
pair_with x y = ((x, y.0), y.1)

abbrev and_each : {A B : Type 0} → (A → Parse B) → A × List Token → Option ((A × B) × List Token)
and_each q x = option_map (pair_with x.0) (q x.0 x.1)

pub then_each_reads : {A B : Type 0} {F G : List Token → Type 0} {P : A → Type 0} {Q : A → B → Type 0} {sp : A → List Token} {sq : A → B → List Token} {p : Parse A} {q : A → Parse B} → ((x : A) (y : B) (rest : List Token) → Q x y → G rest → F (sq x y ++ rest)) → Reads F P sp p → ((x : A) → P x → Reads G (Q x) (sq x) (q x)) → Reads G (λ z. P z.0 × Q z.0 z.1) (λ z. sp z.0 ++ sq z.0 z.1) (then_each p q)
then_each_reads {A} {B} {F} {G} {P} {Q} {sp} {sq} {p} {q} follows r each = record {
  again = λ z rest h k.
      ap (λ ts. option_and_then (and_each q) (p ts)) (append_assoc (sp z.0) (sq z.0 z.1) rest)
      ∙ ap (option_and_then (and_each q)) (r.again z.0 (sq z.0 z.1 ++ rest) h.0 (follows z.0 z.1 rest h.1 k))
      ∙ ap (option_map (pair_with z.0)) ((each z.0 h.0).again z.1 rest h.1 k);
  sound = λ ts z rest e.
      let b = bind_some (and_each q) (p ts) (z, rest) e in
      let m = map_some (pair_with b.0.0) (q b.0.0 b.0.1) (z, rest) b.2 in
      let s = r.sound ts b.0.0 b.0.1 b.1 in
      let t = (each b.0.0 s.0).sound b.0.1 m.0.0 m.0.1 m.1 in
      let C : (A × B) × List Token → Type 0 = λ v. (P v.0.0 × Q v.0.0 v.0.1) × (ts ≡ (sp v.0.0 ++ sq v.0.0 v.0.1) ++ v.1) in
      subst C m.2 ((s.0, t.0), s.1 ∙ ap (λ l. sp b.0.0 ++ l) t.1 ∙ sym (append_assoc (sp b.0.0) (sq b.0.0 m.0.0) m.0.1));
}

pub both_reads : {A B : Type 0} {F G : List Token → Type 0} {P : A → Type 0} {Q : B → Type 0} {sp : A → List Token} {sq : B → List Token} {p : Parse A} {q : Parse B} → ((y : B) (rest : List Token) → Q y → G rest → F (sq y ++ rest)) → Reads F P sp p → Reads G Q sq q → Reads G (λ z. P z.0 × Q z.1) (λ z. sp z.0 ++ sq z.1) (both p q)
both_reads {A} {B} {F} {G} {P} {Q} {sp} {sq} follows r s = then_each_reads {A = A} {B = B} {F = F} {G = G} {P = P} {Q = λ x. Q} {sp = sp} {sq = λ x. sq} (λ x. follows) r (λ x h. s)

-- the same under another form
abbrev pub Made : {A B : Type 0} → (A → B) → (A → Type 0) → B → Type 0
Made {A} f P y = (x : A) × P x × (f x ≡ y)

abbrev remake : {A B : Type 0} → (A → B) → A × List Token → B × List Token
remake f x = (f x.0, x.1)

pub made_reads : {A B : Type 0} {F : List Token → Type 0} {P : A → Type 0} {sp : A → List Token} {p : Parse A} (f : A → B) (sf : B → List Token) → ((x : A) → P x → sf (f x) ≡ sp x) → Reads F P sp p → Reads F (Made f P) sf (made f p)
made_reads {A} {B} {F} {P} {sp} {p} f sf same r = record {
  again = λ y rest h k.
      let C : B → Type 0 = λ z. option_map (remake f) (p (sf z ++ rest)) ≡ Some (z, rest) in
      subst C h.2 (ap (λ l. option_map (remake f) (p (l ++ rest))) (same h.0 h.1) ∙ ap (option_map (remake f)) (r.again h.0 rest h.1 k));
  sound = λ ts y rest e.
      let m = map_some (remake f) (p ts) (y, rest) e in
      let s = r.sound ts m.0.0 m.0.1 m.1 in
      let C : B × List Token → Type 0 = λ v. Made f P v.0 × (ts ≡ sf v.0 ++ v.1) in
      subst C m.2 ((m.0.0, s.0, refl), s.1 ∙ ap (λ l. l ++ m.0.1) (sym (same m.0.0 s.0)));
}

pub choose_reads : {A : Type 0} {F : List Token → Type 0} {P Q : A → Type 0} {sp : A → List Token} {p q : Parse A} (test : List Token → Bool) → ((x : A) (rest : List Token) → P x → F rest → test (sp x ++ rest) ≡ true) → ((x : A) (rest : List Token) → Q x → F rest → test (sp x ++ rest) ≡ false) → Reads F P sp p → Reads F Q sp q → Reads F (λ x. P x ⊎ Q x) sp (choose test p q)
choose_reads {A} {F} {P} {Q} {sp} {p} {q} test yes_is no_is r s = record {
  again = λ x rest h k. elim h [
    | inl l ↦ ap (λ b. cond b (p (sp x ++ rest)) (q (sp x ++ rest))) (yes_is x rest l k) ∙ r.again x rest l k
    | inr l ↦ ap (λ b. cond b (p (sp x ++ rest)) (q (sp x ++ rest))) (no_is x rest l k) ∙ s.again x rest l k
  ];
  sound = λ ts x rest e. elim (cond_cases (test ts) (p ts) (q ts) (Some (x, rest)) e) [
    | inl h ↦ let t = r.sound ts x rest h.1 in (inl t.0, t.1)
    | inr h ↦ let t = s.sound ts x rest h.1 in (inr t.0, t.1)
  ];
}

-- under another name for what is read, and for its spelling
pub known_reads : {A : Type 0} {F : List Token → Type 0} {P Q : A → Type 0} {sp sq : A → List Token} {p : Parse A} → ((x : A) → Q x → P x) → ((x : A) → P x → Q x) → ((x : A) → Q x → sq x ≡ sp x) → Reads F P sp p → Reads F Q sq p
known_reads {A} {F} {P} {Q} {sp} {sq} {p} there back same r = record {
  again = λ x rest h k. ap (λ l. p (l ++ rest)) (same x h) ∙ r.again x rest (there x h) k;
  sound = λ ts x rest e. let s = r.sound ts x rest e in let q = back x s.0 in (q, s.1 ∙ ap (λ l. l ++ rest) (sym (same x q)));
}

pub guarded_reads : {A : Type 0} {F : List Token → Type 0} {P : A → Type 0} {sp : A → List Token} {p : Parse A} (test : A → Bool) → Reads F P sp p → Reads F (λ x. P x × (test x ≡ true)) sp (guarded test p)
guarded_reads {A} {F} {P} {sp} {p} test r = record {
  again = λ x rest h k. ap (option_and_then (passes test)) (r.again x rest h.0 k) ∙ ap (λ b. cond b (Some (x, rest)) None) h.1;
  sound = λ ts x rest e.
      let b = bind_some (passes test) (p ts) (x, rest) e in
      let g = guard_some (test b.0.0) b.0 (x, rest) b.2 in
      let s = r.sound ts b.0.0 b.0.1 b.1 in
      let C : A × List Token → Type 0 = λ v. (P v.0 × (test v.0 ≡ true)) × (ts ≡ sp v.0 ++ v.1) in
      subst C g.1 ((s.0, g.0), s.1);
}

pub found_reads : {A : Type 0} (x : A) → Reads Any (λ y. y ≡ x) (λ y. []) (found x)
found_reads x = record {
  again = λ y rest h k. ap (λ z. Some (z, rest)) (sym h);
  sound = λ ts y rest e. let q = some_is (x, ts) (y, rest) e in (sym (ap (λ v. v.0) q), ap (λ v. v.1) q);
}

pub nothing_reads : {A : Type 0} (sp : A → List Token) → Reads Any (λ y. ⊥) sp nothing
nothing_reads sp = record {
  again = λ y rest h k. absurd h;
  sound = λ ts y rest e. absurd cc;
}

-- a word: what it stands for, and which word stands for it
pub record Decodes {A : Type 0} (P : A → Type 0) (text : A → List ℕ) (f : List ℕ → Option A) : Type 0 where
  pub again : (x : A) → P x → f (text x) ≡ Some x
  pub sound : (w : List ℕ) (x : A) → f w ≡ Some x → P x × (w ≡ text x)

word_sound : {A : Type 0} {P : A → Type 0} {text : A → List ℕ} {f : List ℕ → Option A} → Decodes P text f → (ts : List Token) (x : A) (rest : List Token) → word_as f ts ≡ Some (x, rest) → P x × (ts ≡ word (text x) ∷ rest)
word_sound {A} {P} {text} {f} d [] x rest e = absurd cc
word_sound {A} {P} {text} {f} d (word w ∷ ts) x rest e =
    let m = map_some (λ a. keep a ts) (f w) (x, rest) e in
    let s = d.sound w m.0 m.1 in
    let C : A × List Token → Type 0 = λ v. P v.0 × (word w ∷ ts ≡ word (text v.0) ∷ v.1) in
    subst C m.2 (s.0, ap (λ v. word v ∷ ts) s.1)
word_sound {A} {P} {text} {f} d (mark b ∷ ts) x rest e = absurd cc
word_sound {A} {P} {text} {f} d (double_equals ∷ ts) x rest e = absurd cc
word_sound {A} {P} {text} {f} d (arrow ∷ ts) x rest e = absurd cc

pub word_reads : {A : Type 0} {P : A → Type 0} {text : A → List ℕ} {f : List ℕ → Option A} → Decodes P text f → Reads Any P (λ x. word (text x) ∷ []) (word_as f)
word_reads {A} {P} {text} {f} d = record {
  again = λ x rest h k. ap (option_map (λ a. keep a rest)) (d.again x h);
  sound = word_sound d;
}

-- items one after another, as long as one starts
pub record Starts {A : Type 0} (P : A → Type 0) (sp : A → List Token) (starts : List Token → Bool) : Type 0 where
  pub first : (x : A) (rest : List Token) → P x → starts (sp x ++ rest) ≡ true
  pub some : (x : A) → P x → 0 < length (sp x)

abbrev pub Stops : (List Token → Bool) → List Token → Type 0
Stops starts rest = starts rest ≡ false

abbrev put_first : {A : Type 0} → A → List A × List Token → List A × List Token
put_first x y = (x ∷ y.0, y.1)

abbrev and_more : {A : Type 0} → Parse (List A) → A × List Token → Option (List A × List Token)
and_more more x = option_map (put_first x.0) (more x.1)

many_again : {A : Type 0} {P : A → Type 0} {sp : A → List Token} {p : Parse A} (starts : List Token → Bool) → Starts P sp starts → Reads Any P sp p → (n : ℕ) (xs : List A) (rest : List Token) → AllByRecursion P xs → Stops starts rest → length (flat_map sp xs ++ rest) < n → many_at starts p n (flat_map sp xs ++ rest) ≡ Some (xs, rest)
unfolding many_at
many_again {A} {P} {sp} {p} starts st r zero xs rest h k lt = absurd (omega arith)
many_again {A} {P} {sp} {p} starts st r (suc n) [] rest h k lt = ap (λ b. cond b (turn p (many_at starts p n) rest) (Some ([], rest))) k
many_again {A} {P} {sp} {p} starts st r (suc n) (x ∷ xs) rest h k lt =
    let left = flat_map sp xs ++ rest in
    let split : (sp x ++ flat_map sp xs) ++ rest ≡ sp x ++ left = append_assoc (sp x) (flat_map sp xs) rest in
    let some = st.some x h.0 in
    let shorter : length left < n = omega (arith, length-append (sp x) left, ap length split) in
    ap (λ ts. cond (starts ts) (turn p (many_at starts p n) ts) (Some ([], ts))) split
    ∙ ap (λ b. cond b (turn p (many_at starts p n) (sp x ++ left)) (Some ([], sp x ++ left))) (st.first x left h.0)
    ∙ ap (option_and_then (and_more (many_at starts p n))) (r.again x left h.0 tt)
    ∙ ap (option_map (put_first x)) (many_again starts st r n xs rest h.1 k shorter)

many_sound : {A : Type 0} {P : A → Type 0} {sp : A → List Token} {p : Parse A} (starts : List Token → Bool) → Reads Any P sp p → (n : ℕ) (ts : List Token) (xs : List A) (rest : List Token) → many_at starts p n ts ≡ Some (xs, rest) → AllByRecursion P xs × (ts ≡ flat_map sp xs ++ rest)
unfolding many_at
many_sound {A} {P} {sp} {p} starts r zero ts xs rest e = absurd cc
many_sound {A} {P} {sp} {p} starts r (suc n) ts xs rest e =
    let C : List A × List Token → Type 0 = λ v. AllByRecursion P v.0 × (ts ≡ flat_map sp v.0 ++ v.1) in
    elim (cond_cases (starts ts) (turn p (many_at starts p n) ts) (Some ([], ts)) (Some (xs, rest)) e) [
      | inl h ↦
          let b = bind_some (and_more (many_at starts p n)) (p ts) (xs, rest) h.1 in
          let m = map_some (put_first b.0.0) (many_at starts p n b.0.1) (xs, rest) b.2 in
          let s = r.sound ts b.0.0 b.0.1 b.1 in
          let t = many_sound starts r n b.0.1 m.0.0 m.0.1 m.1 in
          subst C m.2 ((s.0, t.0), s.1 ∙ ap (λ l. sp b.0.0 ++ l) t.1 ∙ sym (append_assoc (sp b.0.0) (flat_map sp m.0.0) m.0.1))
      | inr h ↦ subst C (some_is ([], ts) (xs, rest) h.1) (tt, refl)
    ]

pub many_reads : {A : Type 0} {P : A → Type 0} {sp : A → List Token} {p : Parse A} (starts : List Token → Bool) → Starts P sp starts → Reads Any P sp p → Reads (Stops starts) (AllByRecursion P) (flat_map sp) (many starts p)
many_reads {A} {P} {sp} {p} starts st r = record {
  again = λ xs rest h k. many_again starts st r (suc (length (flat_map sp xs ++ rest))) xs rest h k (omega arith);
  sound = λ ts xs rest e. many_sound starts r (suc (length ts)) ts xs rest e;
}

-- also where less may stand behind
pub weaken_reads : {A : Type 0} {F : List Token → Type 0} {P : A → Type 0} {sp : A → List Token} {p : Parse A} → Reads Any P sp p → Reads F P sp p
weaken_reads r = record { again = λ x rest h k. r.again x rest h tt; sound = r.sound }

-- a part of what is read, under another form: f finds b exactly where it is read as g b
abbrev retry : {A B : Type 0} → (A → Option B) → A × List Token → Option (B × List Token)
retry f x = option_map (λ b. keep b x.1) (f x.0)

pub tried_reads : {A B : Type 0} {F : List Token → Type 0} {P : A → Type 0} {Q : B → Type 0} {sp : A → List Token} {p : Parse A} (f : A → Option B) (g : B → A) → ((b : B) → Q b → P (g b) × (f (g b) ≡ Some b)) → ((a : A) (b : B) → P a → f a ≡ Some b → Q b × (a ≡ g b)) → Reads F P sp p → Reads F Q (λ b. sp (g b)) (tried f p)
tried_reads {A} {B} {F} {P} {Q} {sp} {p} f g there back r = record {
  again = λ b rest h k.
      let t = there b h in
      ap (option_and_then (retry f)) (r.again (g b) rest t.0 k) ∙ ap (option_map (λ c. keep c rest)) t.1;
  sound = λ ts b rest e.
      let x = bind_some (retry f) (p ts) (b, rest) e in
      let m = map_some (λ c. keep c x.0.1) (f x.0.0) (b, rest) x.2 in
      let s = r.sound ts x.0.0 x.0.1 x.1 in
      let q = back x.0.0 m.0 s.0 m.1 in
      let C : B × List Token → Type 0 = λ v. Q v.0 × (ts ≡ sp (g v.0) ++ v.1) in
      subst C m.2 (q.0, s.1 ∙ ap (λ a. sp a ++ x.0.1) q.1);
}
