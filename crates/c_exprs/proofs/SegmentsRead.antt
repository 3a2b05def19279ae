-- Segments are read exactly.
use Rattle.std.proofs.Common.{◌≡◌, ℕ, ◌<◌, ◌^◌, List, [], ◌∷◌, ◌++◌, Bool, true, false, ◌==◌, Some, None, refl}
use Rattle.std.proofs.Common.{ap, subst, ◌∙◌, arith, ◌⊎◌, inl, inr}
use Rattle.std.specs.Prelude.{codes, decimal}
use Rattle.std.proofs.lemmas.Bool.Decides.{nat_tests}
use Rattle.dt_values.specs.Names.{IsName}
use Rattle.dt_values.specs.declared.width.Width.{Width}
use Rattle.c_tokens.specs.Tokens.{Token, word, arrow}
use Rattle.c_tokens.specs.Marks.{open_round, close_round, comma, dot, f_}
use Rattle.c_tokens.specs.Parsing.{after, begins}
use Rattle.c_tokens.specs.Front.{number_at, name_at, name_behind_at}
use Rattle.c_tokens.proofs.Exact.{Reads, Any, begins_again, behind_reads, closed_reads, both_reads, Made, made_reads}
use Rattle.c_tokens.proofs.Exact.{choose_reads, known_reads, guarded_reads, found_reads, word_reads}
use Rattle.c_tokens.proofs.WordsRead.{name_decodes, behind_decodes, number_decodes}
use Rattle.c_exprs.specs.Exprs.{Source, insn, argument, Term, constant, segment, deposit, cast, function, applied}
use Rattle.c_exprs.specs.Spelling.{source_spelled, expr_spelled}
use Rattle.c_exprs.specs.ExprParsing.{set_argument, argument_at, insn_word, source_at, sign_open, sign_at, begins_right}
use Rattle.c_exprs.specs.ExprParsing.{SegmentParts, segment_of, parts_begin_right, segment_rest_at, segment_at}
use Rattle.c_exprs.proofs.Fits.{SourceFits, IsSegment}

pub number_reads : Reads Any (λ n. n < 2 ^ 32) (λ n. word (decimal n) ∷ []) number_at
unfolding number_at
number_reads = word_reads (number_decodes (2 ^ 32) (omega arith))

pub name_reads : Reads Any IsName (λ n. word n ∷ []) name_at
unfolding name_at
name_reads = word_reads name_decodes

pub set_reads : Reads Any IsName (λ s. f_ s ∷ []) (name_behind_at (codes "f_"))
unfolding name_behind_at
set_reads = word_reads (behind_decodes (codes "f_"))

-- a source by the names in it
abbrev SourceNamed : Bool → Source → Type 0
SourceNamed in_decoder insn = Unit {0}
SourceNamed true (argument None name) = ⊥
SourceNamed true (argument (Some set) name) = IsName set × IsName name
SourceNamed false (argument None name) = IsName name
SourceNamed false (argument (Some set) name) = ⊥

abbrev ArgumentNamed : Bool → Source → Type 0
ArgumentNamed in_decoder insn = ⊥
ArgumentNamed in_decoder (argument set name) = SourceNamed in_decoder (argument set name)

alone_there : (s : Source) → ArgumentNamed false s → Made (argument None) IsName s
alone_there insn h = absurd h
alone_there (argument None name) h = (name, h, refl)
alone_there (argument (Some set) name) h = absurd h

alone_back : (s : Source) → Made (argument None) IsName s → ArgumentNamed false s
alone_back s h = subst (ArgumentNamed false) h.2 h.1

abbrev TwoNames : List ℕ × List ℕ → Type 0
TwoNames x = IsName x.0 × IsName x.1

set_there : (s : Source) → ArgumentNamed true s → Made set_argument TwoNames s
set_there insn h = absurd h
set_there (argument None name) h = absurd h
set_there (argument (Some set) name) h = ((set, name), h, refl)

set_back : (s : Source) → Made set_argument TwoNames s → ArgumentNamed true s
set_back s h = subst (ArgumentNamed true) h.2 h.1

argument_reads : (in_decoder : Bool) → Reads Any (ArgumentNamed in_decoder) source_spelled (argument_at in_decoder)
unfolding argument_at
argument_reads false =
    known_reads alone_there alone_back (λ s h. refl)
    (made_reads (argument None) source_spelled (λ x h. refl)
    (behind_reads (word (codes "a") ∷ arrow ∷ []) name_reads))
argument_reads true =
    known_reads set_there set_back (λ s h. refl)
    (made_reads set_argument source_spelled (λ x h. refl)
    (behind_reads (word (codes "u") ∷ dot ∷ [])
    (both_reads (λ y rest h k. tt) set_reads (behind_reads (dot ∷ []) name_reads))))

is_insn : (s : Source) (rest : List Token) → s ≡ insn → Any rest → begins insn_word (source_spelled s ++ rest) ≡ true
is_insn s rest e k = ap (λ q. begins insn_word (source_spelled q ++ rest)) e ∙ begins_again insn_word rest

no_insn : (in_decoder : Bool) (s : Source) (rest : List Token) → ArgumentNamed in_decoder s → Any rest
    → begins insn_word (source_spelled s ++ rest) ≡ false
unfolding begins after
no_insn in_decoder insn rest h k = absurd h
no_insn in_decoder (argument None name) rest h k = refl
no_insn in_decoder (argument (Some set) name) rest h k = refl

source_there : (in_decoder : Bool) (s : Source) → SourceNamed in_decoder s → (s ≡ insn) ⊎ ArgumentNamed in_decoder s
source_there in_decoder insn h = inl refl
source_there in_decoder (argument set name) h = inr h

source_back : (in_decoder : Bool) (s : Source) → (s ≡ insn) ⊎ ArgumentNamed in_decoder s → SourceNamed in_decoder s
source_back in_decoder insn h = tt
source_back in_decoder (argument set name) (inl e) = absurd cc
source_back in_decoder (argument set name) (inr h) = h

source_reads : (in_decoder : Bool) → Reads Any (SourceNamed in_decoder) source_spelled (source_at in_decoder)
unfolding source_at
source_reads in_decoder =
    known_reads (source_there in_decoder) (source_back in_decoder) (λ s h. refl)
    (choose_reads (begins insn_word) is_insn (no_insn in_decoder)
    (known_reads (λ s h. h) (λ s h. h) (λ s h. ap source_spelled h) (behind_reads insn_word (found_reads insn)))
    (argument_reads in_decoder))

is_signed : (w : Width) (s : Bool) (rest : List Token) → s ≡ true → Any rest
    → begins (sign_open w true) (sign_open w s ++ rest) ≡ true
is_signed w s rest e k =
    ap (λ b. begins (sign_open w true) (sign_open w b ++ rest)) e ∙ begins_again (sign_open w true) rest

not_signed : (w : Width) (rest : List Token) → begins (sign_open w true) (sign_open w false ++ rest) ≡ false
unfolding begins after
not_signed w rest = refl

no_sign : (w : Width) (s : Bool) (rest : List Token) → s ≡ false → Any rest
    → begins (sign_open w true) (sign_open w s ++ rest) ≡ false
no_sign w s rest e k = ap (λ b. begins (sign_open w true) (sign_open w b ++ rest)) e ∙ not_signed w rest

one_of_two : (s : Bool) → Unit {0} → (s ≡ true) ⊎ (s ≡ false)
one_of_two true h = inl refl
one_of_two false h = inr refl

sign_reads : (w : Width) → Reads Any (λ s. Unit {0}) (sign_open w) (sign_at w)
unfolding sign_at
sign_reads w =
    known_reads one_of_two (λ s h. tt) (λ s h. refl)
    (choose_reads (begins (sign_open w true)) (is_signed w) (no_sign w)
    (known_reads (λ s h. h) (λ s h. h) (λ s h. ap (sign_open w) h)
    (behind_reads (sign_open w true) (found_reads true)))
    (known_reads (λ s h. h) (λ s h. h) (λ s h. ap (sign_open w) h)
    (behind_reads (sign_open w false) (found_reads false))))

abbrev RestFits : Bool → Source × (ℕ × ℕ) → Type 0
RestFits in_decoder x = SourceNamed in_decoder x.0 × ((x.1.0 < 2 ^ 32) × (x.1.1 < 2 ^ 32))

abbrev rest_spelled : Source × (ℕ × ℕ) → List Token
rest_spelled x =
    (open_round ∷ []) ++ (source_spelled x.0
    ++ (comma ∷ word (decimal x.1.0) ∷ comma ∷ word (decimal x.1.1) ∷ close_round ∷ []))

segment_rest_reads : (in_decoder : Bool)
    → Reads Any (RestFits in_decoder) rest_spelled (segment_rest_at in_decoder)
unfolding segment_rest_at
segment_rest_reads in_decoder =
    known_reads (λ x h. h) (λ x h. h) (λ x h. refl)
    (behind_reads (open_round ∷ []) (both_reads (λ y rest h k. tt) (source_reads in_decoder)
    (behind_reads (comma ∷ []) (both_reads (λ y rest h k. tt) number_reads
    (behind_reads (comma ∷ []) (closed_reads (close_round ∷ []) (λ rest. tt) number_reads))))))

abbrev PartsFit : Bool → SegmentParts → Type 0
PartsFit in_decoder x = (Unit {0} × RestFits in_decoder x.1) × (parts_begin_right x ≡ true)

is_zero : (place : ℕ) → place ≡ 0 → (place == 0) ≡ true
is_zero place h = grind (arith, nat_tests)

zero_is : (place : ℕ) → (place == 0) ≡ true → place ≡ 0
zero_is place h = grind (arith, nat_tests)

fits_there : (in_decoder : Bool) (s : Source) (place : ℕ) → SourceFits in_decoder s place
    → SourceNamed in_decoder s × (begins_right s place ≡ true)
fits_there in_decoder insn place h = (tt, refl)
fits_there true (argument None name) place h = absurd h
fits_there true (argument (Some set) name) place h = ((h.0, h.1), is_zero place h.2)
fits_there false (argument None name) place h = (h.0, is_zero place h.1)
fits_there false (argument (Some set) name) place h = absurd h

fits_back : (in_decoder : Bool) (s : Source) (place : ℕ) → SourceNamed in_decoder s → begins_right s place ≡ true
    → SourceFits in_decoder s place
fits_back in_decoder insn place h k = tt
fits_back true (argument None name) place h k = absurd h
fits_back true (argument (Some set) name) place h k = (h.0, h.1, zero_is place k)
fits_back false (argument None name) place h k = (h, zero_is place k)
fits_back false (argument (Some set) name) place h k = absurd h

segment_there : (in_decoder : Bool) (e : Term) → IsSegment in_decoder e → Made segment_of (PartsFit in_decoder) e
segment_there in_decoder (constant z) h = absurd h
segment_there in_decoder (segment s from place length) h =
    let f = fits_there in_decoder from place h.0 in
    ((s, (from, (place, length))), ((tt, (f.0, (h.1, h.2))), f.1), refl)
segment_there in_decoder (deposit e p l s) h = absurd h
segment_there in_decoder (cast e) h = absurd h
segment_there in_decoder (function f) h = absurd h
segment_there in_decoder (applied f e) h = absurd h

segment_back : (in_decoder : Bool) (e : Term) → Made segment_of (PartsFit in_decoder) e → IsSegment in_decoder e
segment_back in_decoder e h =
    let x = h.0 in
    let f = fits_back in_decoder x.1.0 x.1.1.0 h.1.0.1.0 h.1.1 in
    subst (IsSegment in_decoder) h.2 (f, h.1.0.1.1.0, h.1.0.1.1.1)

pub segment_reads : (in_decoder : Bool) (w : Width)
    → Reads Any (IsSegment in_decoder) (expr_spelled w) (segment_at in_decoder w)
unfolding segment_at
segment_reads in_decoder w =
    known_reads (segment_there in_decoder) (segment_back in_decoder) (λ e h. refl)
    (made_reads segment_of (expr_spelled w) (λ x h. refl)
    (guarded_reads parts_begin_right
    (both_reads (λ y rest h k. tt) (sign_reads w) (segment_rest_reads in_decoder))))
