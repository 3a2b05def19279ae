-- The rules of expressions, put together by the forms that stand one in another.
use Rattle.std.proofs.Common.{◌≡◌, ℕ, ◌<◌, ◌^◌, Bool, true, false, Some, None, refl}
use Rattle.std.specs.Prelude.{not, IsTrue}
use Rattle.dt_values.specs.Names.{IsName}
use Rattle.c_exprs.specs.Exprs.{Source, insn, argument, Term, constant, segment, deposit, cast, function, applied}
use Rattle.c_exprs.specs.Forms.{is_segment, is_bits, is_function, BeginsRight, HasForm, SourceNamed, ConstantFits}
use Rattle.c_exprs.specs.Forms.{HasNames, TermKeeps, SourceStands, StandsIn}
use Rattle.c_tokens.proofs.Exact.{none_not}

abbrev pub SourceFits : Bool → Source → ℕ → Type 0
SourceFits in_decoder insn place = Unit {0}
SourceFits true (argument None name) place = ⊥
SourceFits true (argument (Some set) name) place = IsName set × IsName name × (place ≡ 0)
SourceFits false (argument None name) place = IsName name × (place ≡ 0)
SourceFits false (argument (Some set) name) place = ⊥

abbrev pub IsSegment : Bool → Term → Type 0
IsSegment in_decoder (constant z) = ⊥
IsSegment in_decoder (segment s from place length) =
    SourceFits in_decoder from place × (place < 2 ^ 32) × (length < 2 ^ 32)
IsSegment in_decoder (deposit e p l s) = ⊥
IsSegment in_decoder (cast e) = ⊥
IsSegment in_decoder (function f) = ⊥
IsSegment in_decoder (applied f e) = ⊥

-- a segment, or deposits
abbrev pub IsFold : Bool → Term → Type 0
IsFold in_decoder (constant z) = ⊥
IsFold in_decoder (segment s from place length) =
    SourceFits in_decoder from place × (place < 2 ^ 32) × (length < 2 ^ 32)
IsFold in_decoder (deposit e p l s) =
    IsFold in_decoder e × (p < 2 ^ 32) × (l < 2 ^ 32) × IsSegment in_decoder s
IsFold in_decoder (cast e) = ⊥
IsFold in_decoder (function f) = ⊥
IsFold in_decoder (applied f e) = ⊥

-- a fold, with or without a cast
abbrev pub IsValue : Bool → Term → Type 0
IsValue in_decoder (constant z) = ⊥
IsValue in_decoder (segment s from place length) = IsFold in_decoder (segment s from place length)
IsValue in_decoder (deposit e p l s) = IsFold in_decoder (deposit e p l s)
IsValue in_decoder (cast e) = IsFold in_decoder e
IsValue in_decoder (function f) = ⊥
IsValue in_decoder (applied f e) = ⊥

-- what a function may be asked for
abbrev pub IsPlain : Bool → Term → Type 0
IsPlain in_decoder (constant z) = ConstantFits z
IsPlain in_decoder (segment s from place length) = IsFold in_decoder (segment s from place length)
IsPlain in_decoder (deposit e p l s) = IsFold in_decoder (deposit e p l s)
IsPlain in_decoder (cast e) = IsFold in_decoder e
IsPlain in_decoder (function f) = ⊥
IsPlain in_decoder (applied f e) = ⊥

abbrev pub TermFits : Bool → Term → Type 0
TermFits in_decoder (constant z) = ConstantFits z
TermFits in_decoder (segment s from place length) = IsFold in_decoder (segment s from place length)
TermFits in_decoder (deposit e p l s) = IsFold in_decoder (deposit e p l s)
TermFits in_decoder (cast e) = IsFold in_decoder e
TermFits in_decoder (function f) = IsName f
TermFits in_decoder (applied f e) = IsName f × IsPlain in_decoder e

-- the rules, as one
abbrev pub Keeps : Bool → Term → Type 0
Keeps in_decoder e = HasForm e × HasNames e × StandsIn in_decoder e

source_there : (in_decoder : Bool) (s : Source) (place : ℕ)
    → BeginsRight s place → SourceNamed s → SourceStands in_decoder s → SourceFits in_decoder s place
source_there in_decoder insn place b n s = tt
source_there true (argument None name) place b n s = absurd (none_not s)
source_there true (argument (Some set) name) place b n s = (n.0, n.1, b)
source_there false (argument None name) place b n s = (n, b)
source_there false (argument (Some set) name) place b n s = absurd cc

source_back : (in_decoder : Bool) (s : Source) (place : ℕ)
    → SourceFits in_decoder s place → BeginsRight s place × SourceNamed s × SourceStands in_decoder s
source_back in_decoder insn place h = (tt, tt, tt)
source_back true (argument None name) place h = absurd h
source_back true (argument (Some set) name) place h = (h.2, (h.0, h.1), refl)
source_back false (argument None name) place h = (h.1, h.0, refl)
source_back false (argument (Some set) name) place h = absurd h

segment_there : (in_decoder : Bool) (e : Term) → IsTrue (is_segment e) → Keeps in_decoder e → IsSegment in_decoder e
segment_there in_decoder (constant z) is h = absurd (none_not is)
segment_there in_decoder (segment s from place length) is h =
    (source_there in_decoder from place h.0 h.1.0 h.2, h.1.1, h.1.2)
segment_there in_decoder (deposit e p l s) is h = absurd (none_not is)
segment_there in_decoder (cast e) is h = absurd (none_not is)
segment_there in_decoder (function f) is h = absurd (none_not is)
segment_there in_decoder (applied f e) is h = absurd (none_not is)

segment_back : (in_decoder : Bool) (e : Term) → IsSegment in_decoder e → IsTrue (is_segment e) × Keeps in_decoder e
segment_back in_decoder (constant z) h = absurd h
segment_back in_decoder (segment s from place length) h =
    let k = source_back in_decoder from place h.0 in
    (refl, (k.0, (k.1, h.1, h.2), k.2))
segment_back in_decoder (deposit e p l s) h = absurd h
segment_back in_decoder (cast e) h = absurd h
segment_back in_decoder (function f) h = absurd h
segment_back in_decoder (applied f e) h = absurd h

fold_there : (in_decoder : Bool) (e : Term) → IsTrue (is_bits e) → Keeps in_decoder e → IsFold in_decoder e
fold_there in_decoder (constant z) is h = absurd (none_not is)
fold_there in_decoder (segment s from place length) is h = segment_there in_decoder (segment s from place length) refl h
fold_there in_decoder (deposit e p l s) is h =
    let e-is = fold_there in_decoder e h.0.0 (h.0.1, h.1.0, h.2.0) in
    (e-is, h.1.1, h.1.2, segment_there in_decoder s h.0.2 (h.0.3, h.1.3, h.2.1))
fold_there in_decoder (cast e) is h = absurd (none_not is)
fold_there in_decoder (function f) is h = absurd (none_not is)
fold_there in_decoder (applied f e) is h = absurd (none_not is)

fold_back : (in_decoder : Bool) (e : Term) → IsFold in_decoder e → IsTrue (is_bits e) × Keeps in_decoder e
fold_back in_decoder (constant z) h = absurd h
fold_back in_decoder (segment s from place length) h =
    (refl, (segment_back in_decoder (segment s from place length) h).1)
fold_back in_decoder (deposit e p l s) h =
    let a = fold_back in_decoder e h.0 in
    let b = segment_back in_decoder s h.3 in
    (refl, ((a.0, a.1.0, b.0, b.1.0), (a.1.1, h.1, h.2, b.1.1), (a.1.2, b.1.2)))
fold_back in_decoder (cast e) h = absurd h
fold_back in_decoder (function f) h = absurd h
fold_back in_decoder (applied f e) h = absurd h

plain_there : (in_decoder : Bool) (e : Term) → IsTrue (not (is_function e)) → Keeps in_decoder e → IsPlain in_decoder e
plain_there in_decoder (constant z) is h = h.1
plain_there in_decoder (segment s from place length) is h = fold_there in_decoder (segment s from place length) refl h
plain_there in_decoder (deposit e p l s) is h = fold_there in_decoder (deposit e p l s) refl h
plain_there in_decoder (cast e) is h = fold_there in_decoder e h.0.0 (h.0.1, h.1, h.2)
plain_there in_decoder (function f) is h = absurd (none_not is)
plain_there in_decoder (applied f e) is h = absurd (none_not is)

cast_back : (in_decoder : Bool) (e : Term) → IsFold in_decoder e → Keeps in_decoder (cast e)
cast_back in_decoder e h = let k = fold_back in_decoder e h in ((k.0, k.1.0), k.1.1, k.1.2)

plain_back : (in_decoder : Bool) (e : Term) → IsPlain in_decoder e → IsTrue (not (is_function e)) × Keeps in_decoder e
plain_back in_decoder (constant z) h = (refl, (tt, h, tt))
plain_back in_decoder (segment s from place length) h =
    (refl, (fold_back in_decoder (segment s from place length) h).1)
plain_back in_decoder (deposit e p l s) h = (refl, (fold_back in_decoder (deposit e p l s) h).1)
plain_back in_decoder (cast e) h = (refl, cast_back in_decoder e h)
plain_back in_decoder (function f) h = absurd h
plain_back in_decoder (applied f e) h = absurd h

keeps_there : (in_decoder : Bool) (e : Term) → Keeps in_decoder e → TermFits in_decoder e
keeps_there in_decoder (constant z) h = h.1
keeps_there in_decoder (segment s from place length) h = fold_there in_decoder (segment s from place length) refl h
keeps_there in_decoder (deposit e p l s) h = fold_there in_decoder (deposit e p l s) refl h
keeps_there in_decoder (cast e) h = fold_there in_decoder e h.0.0 (h.0.1, h.1, h.2)
keeps_there in_decoder (function f) h = h.1
keeps_there in_decoder (applied f e) h = (h.1.0, plain_there in_decoder e h.0.0 (h.0.1, h.1.1, h.2))

keeps_back : (in_decoder : Bool) (e : Term) → TermFits in_decoder e → Keeps in_decoder e
keeps_back in_decoder (constant z) h = (tt, h, tt)
keeps_back in_decoder (segment s from place length) h = (fold_back in_decoder (segment s from place length) h).1
keeps_back in_decoder (deposit e p l s) h = (fold_back in_decoder (deposit e p l s) h).1
keeps_back in_decoder (cast e) h = cast_back in_decoder e h
keeps_back in_decoder (function f) h = (tt, h, tt)
keeps_back in_decoder (applied f e) h =
    let k = plain_back in_decoder e h.1 in
    ((k.0, k.1.0), (h.0, k.1.1), k.1.2)

pub fits_there : (in_decoder : Bool) (e : Term) → TermKeeps e × StandsIn in_decoder e → TermFits in_decoder e
fits_there in_decoder e h = keeps_there in_decoder e (h.0.form, h.0.names, h.1)

pub fits_back : (in_decoder : Bool) (e : Term) → TermFits in_decoder e → TermKeeps e × StandsIn in_decoder e
fits_back in_decoder e h =
    let k = keeps_back in_decoder e h in
    (record { form = k.0; names = k.1 }, k.2)
