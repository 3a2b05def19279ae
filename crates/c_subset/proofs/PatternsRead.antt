-- Patterns are read exactly, with their prefix.
use Rattle.std.proofs.Common.{◌≡◌, ◌≢◌, ◌↔◌, ℕ, ◌<◌, ◌-◌, List, [], ◌∷◌, ◌++◌, length, take, drop, Bool, true, false}
use Rattle.std.proofs.Common.{cond, ◌&&◌, Option, Some, None, option_and_then, refl, sym, ap, subst, ◌∙◌, arith}
use Rattle.std.proofs.Common.{append_assoc, length-append, ◌⊎◌, inl, inr}
use Rattle.std.specs.Prelude.{codes, flat_map, nat_eq, IsSome, IfSome}
use Rattle.std.specs.Bool.{beq}
use Rattle.std.specs.List.{All, AllByRecursion}
use Rattle.std.specs.Cmp.Lexicographic.{pointwise}
use Rattle.std.proofs.lemmas.List.{take-append-drop, drop_at, take_at}
use Rattle.dt_values.specs.Names.{IsName}
use Rattle.c_tokens.specs.Tokens.{Token, word}
use Rattle.c_tokens.specs.Marks.{semicolon, arg_}
use Rattle.c_tokens.specs.Parsing.{after, begins}
use Rattle.c_tokens.specs.WordParsing.{name_of, strip_end, name_before}
use Rattle.c_tokens.proofs.Exact.{Reads, Any, Stops, Starts, Decodes, begins_again, behind_reads, closed_reads}
use Rattle.c_tokens.proofs.Exact.{then_each_reads, both_reads, Made, made_reads, choose_reads, known_reads, guarded_reads}
use Rattle.c_tokens.proofs.Exact.{found_reads, word_reads, weaken_reads, many_reads, bytes_are, bytes_self, guard_some}
use Rattle.c_tokens.proofs.Exact.{bind_some}
use Rattle.c_tokens.proofs.WordsRead.{name_decodes}
use Rattle.c_subset.specs.Programs.{Name, Pattern, Prefix, prefix_of, static_spelled, prototype_spelled, pattern_spelled}
use Rattle.c_subset.specs.Keeps.{PatternNamed}
use Rattle.c_subset.specs.PatternParsing.{static_word, static_at, bool_word, context_run, typedef_word, typedef_of, typedef_at}
use Rattle.c_subset.specs.PatternParsing.{prototype_close, parameters_at, Prototype, is_prototype_of, prototype_prefix}
use Rattle.c_subset.specs.PatternParsing.{prototype_at, prefixed_at, same_prefix, has_prefix, only_pattern, pattern_at}
use Rattle.c_subset.specs.PatternParsing.{starts_pattern, with_first, some_patterns_at, patterns_at}
use Rattle.c_subset.proofs.Each.{each_there, each_back}
use Rattle.c_subset.proofs.ReadLoops.{shorter}
use Rattle.c_subset.proofs.SetsRead.{arg_reads}

-- what stands before fixed bytes
front_sound : (fixed w x : List ℕ) → strip_end fixed w ≡ Some x → w ≡ x ++ fixed
unfolding strip_end
front_sound fixed w x e =
    let k = length w - length fixed in
    let g = guard_some (pointwise nat_eq (drop k w) fixed) (take k w) x e in
    sym (take-append-drop k w) ∙ ap (λ l. take k w ++ l) (bytes_are (drop k w) fixed g.0) ∙ ap (λ l. l ++ fixed) g.1

front_again : (fixed x : List ℕ) → strip_end fixed (x ++ fixed) ≡ Some x
unfolding strip_end
front_again fixed x =
    let place : length (x ++ fixed) - length fixed ≡ length x = omega (arith, length-append x fixed) in
    let front : List ℕ → ℕ → Option (List ℕ) = λ l k. cond (pointwise nat_eq l fixed) (Some (take k (x ++ fixed))) None in
    ap (λ k. front (drop k (x ++ fixed)) k) place
    ∙ ap (λ l. front l (length x)) (drop_at x fixed (length x) refl)
    ∙ ap (λ b. cond b (Some (take (length x) (x ++ fixed))) None) (bytes_self fixed)
    ∙ ap Some (take_at x fixed (length x) refl)

same_found : {A : Type 0} (o p : Option A) → ((x : A) → o ≡ Some x → p ≡ Some x)
    → ((x : A) → p ≡ Some x → o ≡ Some x) → o ≡ p
same_found None None there back = refl
same_found None (Some y) there back = back y refl
same_found (Some x) p there back = sym (there x refl)

front_parts : (a b w : List ℕ) → strip_end (a ++ b) w ≡ option_and_then (strip_end a) (strip_end b w)
front_parts a b w = same_found (strip_end (a ++ b) w) (option_and_then (strip_end a) (strip_end b w)) (λ x e.
    let is : w ≡ (x ++ a) ++ b = front_sound (a ++ b) w x e ∙ sym (append_assoc x a b) in
    ap (λ v. option_and_then (strip_end a) (strip_end b v)) is
    ∙ ap (option_and_then (strip_end a)) (front_again b (x ++ a))
    ∙ front_again a x) (λ x e.
    let v = bind_some (strip_end a) (strip_end b w) x e in
    let is : w ≡ x ++ (a ++ b) =
    front_sound b w v.0 v.1 ∙ ap (λ l. l ++ b) (front_sound a v.0 x v.2) ∙ append_assoc x a b in
    ap (strip_end (a ++ b)) is ∙ front_again (a ++ b) x)

-- a name before an underscore and another name
pub before_underscore : (n w : List ℕ)
    → strip_end (codes "_" ++ n) w ≡ option_and_then (strip_end (codes "_")) (strip_end n w)
before_underscore n w = front_parts (codes "_") n w

before_decodes : (fixed : List ℕ) → Decodes IsName (λ p. p ++ fixed) (name_before fixed)
before_decodes fixed = record {
  again = λ p h. ap (option_and_then name_of) (front_again fixed p) ∙ name_decodes.again p h;
  sound = λ w p e.
      let b = bind_some name_of (strip_end fixed w) p e in
      let s = name_decodes.sound b.0 p b.2 in
      (s.0, front_sound fixed w b.0 b.1 ∙ ap (λ l. l ++ fixed) s.1);
}

-- static or not, where something else stands behind it
abbrev pub NotStatic : List Token → Type 0
NotStatic rest = begins static_word rest ≡ false

is_static : (b : Bool) (rest : List Token) → b ≡ true → NotStatic rest → begins static_word (static_spelled b ++ rest) ≡ true
is_static b rest e k = ap (λ c. begins static_word (static_spelled c ++ rest)) e ∙ begins_again static_word rest

no_static : (b : Bool) (rest : List Token) → b ≡ false → NotStatic rest → begins static_word (static_spelled b ++ rest) ≡ false
no_static b rest e k = ap (λ c. begins static_word (static_spelled c ++ rest)) e ∙ k

one_of_two : (b : Bool) → Unit {0} → (b ≡ true) ⊎ (b ≡ false)
one_of_two true h = inl refl
one_of_two false h = inr refl

pub static_reads : Reads NotStatic (λ b. Unit {0}) static_spelled static_at
unfolding static_at
static_reads =
    known_reads one_of_two (λ b h. tt) (λ b h. refl)
    (choose_reads (begins static_word) is_static no_static
    (weaken_reads (known_reads (λ b h. h) (λ b h. h) (λ b h. ap static_spelled h) (behind_reads static_word (found_reads true))))
    (weaken_reads (known_reads (λ b h. h) (λ b h. h) (λ b h. ap static_spelled h) (found_reads false))))

pub bool_follows : (rest : List Token) → NotStatic (bool_word ++ rest)
unfolding begins after
bool_follows rest = refl

-- typedef arg_S arg_NAME;
abbrev typedef_spelled : Pattern → List Token
typedef_spelled p = word (codes "typedef") ∷ arg_ p.set ∷ arg_ p.name ∷ semicolon ∷ []

abbrev BothNamed : Name × Name → Type 0
BothNamed x = IsName x.0 × IsName x.1

typedef_there : (p : Pattern) → PatternNamed p → Made typedef_of BothNamed p
typedef_there p h = ((p.set, p.name), (h.set, h.name), refl)

typedef_back : (p : Pattern) → Made typedef_of BothNamed p → PatternNamed p
typedef_back p h = subst PatternNamed h.2 (record { name = h.1.1; set = h.1.0 })

typedef_reads : Reads Any PatternNamed typedef_spelled typedef_at
unfolding typedef_at
typedef_reads =
    known_reads typedef_there typedef_back (λ p h. refl)
    (made_reads {P = BothNamed} typedef_of typedef_spelled (λ x h. refl)
    (behind_reads typedef_word (both_reads (λ y rest h k. tt) arg_reads (closed_reads (semicolon ∷ []) (λ rest. tt) arg_reads))))

-- the prototype of a pattern whose name is known
parameters_reads : Reads Any IsName (λ s. context_run ++ (arg_ s ∷ prototype_close)) parameters_at
unfolding parameters_at
parameters_reads = behind_reads context_run (closed_reads prototype_close (λ rest. tt) arg_reads)

abbrev IsPrototype : Name → Prototype → Type 0
IsPrototype name x = (Unit {0} × (IsName x.1.0 × IsName x.1.1)) × (is_prototype_of name x ≡ true)

abbrev PrefixNamed : Prefix → Type 0
PrefixNamed x = IsName x.name

prototype_there : (name : Name) → IsName name → (x : Prefix) → PrefixNamed x → Made prototype_prefix (IsPrototype name) x
prototype_there name h x k = ((x.is_static, (x.name, name)), ((tt, (k, h)), bytes_self name), refl)

prototype_back : (name : Name) (x : Prefix) → Made prototype_prefix (IsPrototype name) x → PrefixNamed x
prototype_back name x h = subst PrefixNamed h.2 h.1.0.1.0

abbrev prefixed : Name → Prefix → List Token
prefixed name x = static_spelled x.is_static ++ prototype_spelled x.name name

abbrev raw_spelled : Name → Prototype → List Token
raw_spelled name x =
    static_spelled x.0
    ++ (bool_word ++ ((word (x.1.0 ++ (codes "_" ++ name)) ∷ []) ++ (context_run ++ (arg_ x.1.1 ∷ prototype_close))))

prototype_same : (name : Name) (x : Prototype) → IsPrototype name x → prefixed name (prototype_prefix x) ≡ raw_spelled name x
prototype_same name x h =
    ap (λ w. static_spelled x.0 ++ (bool_word ++ ((word w ∷ []) ++ (context_run ++ (arg_ name ∷ prototype_close)))))
    (append_assoc x.1.0 (codes "_") name)
    ∙ ap (λ n. raw_spelled name (x.0, (x.1.0, n))) (bytes_are name x.1.1 h.1)

prototype_reads : (name : Name) → IsName name → Reads Any PrefixNamed (prefixed name) (prototype_at name)
unfolding prototype_at
prototype_reads name named =
    known_reads (prototype_there name named) (prototype_back name) (λ x h. refl)
    (made_reads {P = IsPrototype name} prototype_prefix (prefixed name) (prototype_same name)
    (guarded_reads (is_prototype_of name)
    (both_reads (λ y rest h k. bool_follows _) static_reads
    (behind_reads bool_word
    (both_reads (λ y rest h k. tt) (word_reads (before_decodes (codes "_" ++ name))) parameters_reads)))))

-- a pattern and its prefix
abbrev PrefixedKeeps : Pattern × Prefix → Type 0
PrefixedKeeps x = PatternNamed x.0 × PrefixNamed x.1

abbrev prefixed_spelled : Pattern × Prefix → List Token
prefixed_spelled x = pattern_spelled x.1 x.0

prefixed_reads : Reads Any PrefixedKeeps prefixed_spelled prefixed_at
unfolding prefixed_at
prefixed_reads =
    known_reads (λ x h. h) (λ x h. h) (λ x h. refl)
    (then_each_reads {P = PatternNamed} {Q = λ p x. PrefixNamed x} (λ x y rest h k. tt) typedef_reads
    (λ p h. prototype_reads p.name h.name))

flag_self : (b : Bool) → beq b b ≡ true
flag_self true = refl
flag_self false = refl

flag_is : (a b : Bool) → beq a b ≡ true → a ≡ b
flag_is true true h = refl
flag_is true false h = absurd cc
flag_is false true h = absurd cc
flag_is false false h = refl

both_true : (a b : Bool) → (a && b) ≡ true → (a ≡ true) × (b ≡ true)
both_true true b h = (refl, h)
both_true false b h = absurd cc

prefix_self : (x : Prefix) → same_prefix x x ≡ true
prefix_self x = ap (λ b. b && pointwise nat_eq x.name x.name) (flag_self x.is_static) ∙ bytes_self x.name

prefix_is : (x y : Prefix) → same_prefix x y ≡ true → x ≡ y
prefix_is x y h =
    let b = both_true (beq x.is_static y.is_static) (pointwise nat_eq x.name y.name) h in
    let flag = flag_is x.is_static y.is_static b.0 in
    let name = bytes_are x.name y.name b.1 in
    λ i. record { name = name i; is_static = flag i }

-- a pattern of a known prefix
abbrev HasPrefix : Prefix → Pattern × Prefix → Type 0
HasPrefix prefix x = PrefixedKeeps x × (has_prefix prefix x ≡ true)

pattern_there : (prefix : Prefix) → PrefixNamed prefix → (p : Pattern) → PatternNamed p → Made only_pattern (HasPrefix prefix) p
pattern_there prefix named p h = ((p, prefix), ((h, named), prefix_self prefix), refl)

pattern_back : (prefix : Prefix) (p : Pattern) → Made only_pattern (HasPrefix prefix) p → PatternNamed p
pattern_back prefix p h = subst PatternNamed h.2 h.1.0.0

pattern_same : (prefix : Prefix) (x : Pattern × Prefix) → HasPrefix prefix x → pattern_spelled prefix x.0 ≡ prefixed_spelled x
pattern_same prefix x h = ap (λ y. pattern_spelled y x.0) (prefix_is prefix x.1 h.1)

one_reads : (prefix : Prefix)
    → Reads Any (Made only_pattern (HasPrefix prefix)) (pattern_spelled prefix) (pattern_at prefix)
unfolding pattern_at
one_reads prefix =
    made_reads {P = HasPrefix prefix} only_pattern (pattern_spelled prefix) (pattern_same prefix)
    (guarded_reads (has_prefix prefix) prefixed_reads)

pattern_reads : (prefix : Prefix) → PrefixNamed prefix
    → Reads Any PatternNamed (pattern_spelled prefix) (pattern_at prefix)
pattern_reads prefix named =
    known_reads (pattern_there prefix named) (pattern_back prefix) (λ p h. refl) (one_reads prefix)

pattern_starts : (P : Pattern → Type 0) (prefix : Prefix) → Starts P (pattern_spelled prefix) starts_pattern
unfolding starts_pattern begins after
pattern_starts P prefix = record { first = λ x rest h. refl; some = λ x h. omega arith }

pub pattern_shorter : (prefix : Prefix) (ts : List Token) (x : Pattern) (rest : List Token)
    → pattern_at prefix ts ≡ Some (x, rest) → length rest < length ts
pattern_shorter prefix = shorter (one_reads prefix) (pattern_starts (Made only_pattern (HasPrefix prefix)) prefix)

-- all patterns
abbrev pub Patterns : Type 0
Patterns = Option Prefix × List Pattern

-- the rules of patterns that their own text decides
pub record PatternsKeep (x : Patterns) : Type 0 where
  pub prefix_with_patterns : IsSome x.0 ↔ (x.1 ≢ [])
  pub prefix_named : IfSome x.0 (λ prefix. IsName prefix.name)
  pub patterns_named : All PatternNamed x.1

abbrev pub patterns_spelled : Patterns → List Token
patterns_spelled x = flat_map (pattern_spelled (prefix_of x.0)) x.1

abbrev FirstKeeps : (Pattern × Prefix) × List Pattern → Type 0
FirstKeeps x = PrefixedKeeps x.0 × AllByRecursion PatternNamed x.1

abbrev IsFirst : Patterns → Type 0
IsFirst = Made with_first FirstKeeps

some_reads : Reads (Stops starts_pattern) IsFirst patterns_spelled some_patterns_at
unfolding some_patterns_at
some_reads =
    made_reads {P = FirstKeeps} with_first patterns_spelled (λ x h. refl)
    (then_each_reads {P = PrefixedKeeps} {Q = λ x ps. AllByRecursion PatternNamed ps} (λ x y rest h k. tt) prefixed_reads
    (λ x h. many_reads starts_pattern (pattern_starts PatternNamed x.1) (pattern_reads x.1 h.1)))

abbrev IsNone : Patterns → Type 0
IsNone x = x ≡ (None, [])

patterns_there : (x : Patterns) → PatternsKeep x → IsFirst x ⊎ IsNone x
patterns_there (None, []) h = inr refl
patterns_there (None, p ∷ ps) h = let some : false ≡ true = h.prefix_with_patterns.1 (λ e. cc) in absurd cc
patterns_there (Some y, []) h = absurd (h.prefix_with_patterns.0 refl refl)
patterns_there (Some y, p ∷ ps) h =
    let named = each_there PatternNamed (p ∷ ps) h.patterns_named in
    inl (((p, y), ps), ((named.0, h.prefix_named), named.1), refl)

first_back : (x : (Pattern × Prefix) × List Pattern) → FirstKeeps x → PatternsKeep (with_first x)
first_back x h = record {
  prefix_with_patterns = ((λ k e. cc), (λ k. refl));
  prefix_named = h.0.1;
  patterns_named = each_back PatternNamed (x.0.0 ∷ x.1) (h.0.0, h.1);
}

none_back : PatternsKeep (None, [])
none_back = record {
  prefix_with_patterns = ((λ k e. cc), (λ k. absurd (k refl)));
  prefix_named = tt;
  patterns_named = each_back PatternNamed [] tt;
}

patterns_back : (x : Patterns) → IsFirst x ⊎ IsNone x → PatternsKeep x
patterns_back x (inl h) = subst PatternsKeep h.2 (first_back h.0 h.1)
patterns_back x (inr h) = subst PatternsKeep (sym h) none_back

first_starts : (x : Patterns) (rest : List Token) → IsFirst x → Stops starts_pattern rest
    → starts_pattern (patterns_spelled x ++ rest) ≡ true
unfolding starts_pattern begins after
first_starts x rest h k = subst (λ y. starts_pattern (patterns_spelled y ++ rest) ≡ true) h.2 refl

none_stops : (x : Patterns) (rest : List Token) → IsNone x → Stops starts_pattern rest
    → starts_pattern (patterns_spelled x ++ rest) ≡ false
none_stops x rest h k = subst (λ y. starts_pattern (patterns_spelled y ++ rest) ≡ false) (sym h) k

pub patterns_reads : Reads (Stops starts_pattern) PatternsKeep patterns_spelled patterns_at
unfolding patterns_at
patterns_reads =
    known_reads patterns_there patterns_back (λ x h. refl)
    (choose_reads starts_pattern first_starts none_stops some_reads
    (weaken_reads (known_reads (λ x h. h) (λ x h. h) (λ x h. ap patterns_spelled h) (found_reads (None, [])))))
