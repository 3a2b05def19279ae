-- The turns of the loops that read deposits.
use Rattle.std.proofs.Common.{◌≡◌, ℕ, suc, ◌<◌, List, ◌∷◌, ◌++◌, length, replicate, Bool, Option}
use Rattle.std.proofs.Common.{Some, None, option_map, option_and_then, refl, sym, ap, ◌∙◌, arith}
use Rattle.std.proofs.lemmas.List.{length-replicate}
use Rattle.dt_values.specs.declared.width.Width.{Width}
use Rattle.c_tokens.specs.Tokens.{Token}
use Rattle.c_tokens.specs.declared.fault.ReadFault.{ReadFault}
use Rattle.c_tokens.specs.declared.fault.ReadFault.TheVariants as fault
use Rattle.c_tokens.specs.Gives.{Fails}
use Rattle.c_tokens.specs.Parsing.{Parse, made}
use Rattle.c_exprs.specs.Exprs.{Term, deposit}
use Rattle.c_exprs.specs.ExprParsing.{segment_at, Placed, placed_at, deposit_open, opening_at, openings_at, times}
use Rattle.c_exprs.specs.ExprParsing.{deposited, FoldParts, fold_of, folded_at, fold_at}
use Rattle.c_exprs.proofs.FoldsRead.{opening_reads}

pub opening_shorter : (w : Width) (ts rest : List Token) (o : Unit {0}) → opening_at w ts ≡ Some (o, rest)
    → length rest < length ts
opening_shorter w ts rest o e =
    let same : ts ≡ deposit_open w ++ rest = ((opening_reads w).sound ts o rest e).1 in
    omega (arith, ap length same)

-- only memory can run out where something is read
pub fails_any : {A B : Type 0} (e : ReadFault) (x : A) (r : Option B) → Fails e (Some x) → Fails e r
fails_any fault.NotSubset x r h = absurd cc
fails_any fault.NoMemory x r h = tt

-- the deposits around a part, so many
abbrev pub around : Bool → Width → Term → ℕ → Parse Term
around in_decoder w e n = made (deposited e) (times n (placed_at in_decoder w))

abbrev wrapped : Term → List Placed × List Token → Term × List Token
wrapped e x = (deposited e x.0, x.1)

wrapped_first : (e : Term) (x : Placed) (r : Option (List Placed × List Token))
    → option_map (wrapped (deposit e x.0 x.1.0 x.1.1)) r
    ≡ option_map (wrapped e) (option_map (λ (y : List Placed × List Token). (x ∷ y.0, y.1)) r)
wrapped_first e x None = refl
wrapped_first e x (Some y) = refl

abbrev with_first : Parse (List Placed) → Placed × List Token → Option (List Placed × List Token)
with_first more x = option_map (λ (y : List Placed × List Token). (x.0 ∷ y.0, y.1)) (more x.1)

pub around_more : (in_decoder : Bool) (w : Width) (e : Term) (n k : ℕ) (ts rest : List Token) (x : Placed)
    → placed_at in_decoder w ts ≡ Some (x, rest) → n ≡ suc k
    → around in_decoder w (deposit e x.0 x.1.0 x.1.1) k rest ≡ around in_decoder w e n ts
unfolding times
around_more in_decoder w e n k ts rest x h is =
    wrapped_first e x (times k (placed_at in_decoder w) rest)
    ∙ ap (λ r. option_map (wrapped e) (option_and_then (with_first (times k (placed_at in_decoder w))) r)) (sym h)
    ∙ ap (λ m. around in_decoder w e m ts) (sym is)

around_none : (in_decoder : Bool) (w : Width) (e : Term) (k : ℕ) (ts : List Token)
    → placed_at in_decoder w ts ≡ None → around in_decoder w e (suc k) ts ≡ None
unfolding times
around_none in_decoder w e k ts h =
    ap (λ r. option_map (wrapped e) (option_and_then (with_first (times k (placed_at in_decoder w))) r)) h

pub around_fails : (in_decoder : Bool) (w : Width) (e : Term) (n k : ℕ) (ts : List Token) (f : ReadFault)
    → Fails f (placed_at in_decoder w ts) → n ≡ suc k → Fails f (around in_decoder w e n ts)
around_fails in_decoder w e n k ts fault.NotSubset h is =
    ap (λ m. around in_decoder w e m ts) is ∙ around_none in_decoder w e k ts h
around_fails in_decoder w e n k ts fault.NoMemory h is = tt

pub around_last : (in_decoder : Bool) (w : Width) (e : Term) (ts : List Token)
    → around in_decoder w e 0 ts ≡ Some (e, ts)
unfolding times
around_last in_decoder w e ts = refl

-- a fold is the deposits around its segment, as many as were opened
abbrev pair_with : {A B : Type 0} → A → B × List Token → (A × B) × List Token
pair_with x y = ((x, y.0), y.1)

abbrev and_each : {A B : Type 0} → (A → Parse B) → A × List Token → Option ((A × B) × List Token)
and_each q x = option_map (pair_with x.0) (q x.0 x.1)

abbrev fold_with : FoldParts × List Token → Term × List Token
fold_with x = (fold_of x.0, x.1)

-- what openings that were read make of the rest
abbrev opened : Bool → Width → Option (List (Unit {0}) × List Token) → Option (Term × List Token)
opened in_decoder w r = option_map fold_with (option_and_then (and_each (folded_at in_decoder w)) r)

-- and what a first segment makes of it
abbrev begun : Bool → Width → List (Unit {0}) → Option (Term × List Token) → Option (Term × List Token)
begun in_decoder w os r =
    option_map fold_with (option_map (pair_with os)
    (option_and_then (and_each (λ e. times (length os) (placed_at in_decoder w))) r))

fold_opened : (in_decoder : Bool) (w : Width) (ts : List Token)
    → fold_at in_decoder w ts ≡ opened in_decoder w (openings_at w ts)
unfolding fold_at
fold_opened in_decoder w ts = refl

opened_begun : (in_decoder : Bool) (w : Width) (os : List (Unit {0})) (more : List Token)
    → opened in_decoder w (Some (os, more)) ≡ begun in_decoder w os (segment_at in_decoder w more)
unfolding folded_at
opened_begun in_decoder w os more = refl

put_together : (os : List (Unit {0})) (e : Term) (r : Option (List Placed × List Token))
    → option_map fold_with (option_map (pair_with os) (option_map (pair_with e) r)) ≡ option_map (wrapped e) r
put_together os e None = refl
put_together os e (Some x) = refl

fold_begun : (in_decoder : Bool) (w : Width) (os : List (Unit {0})) (ts more : List Token)
    → openings_at w ts ≡ Some (os, more)
    → fold_at in_decoder w ts ≡ begun in_decoder w os (segment_at in_decoder w more)
fold_begun in_decoder w os ts more h =
    fold_opened in_decoder w ts ∙ ap (opened in_decoder w) h ∙ opened_begun in_decoder w os more

pub fold_around : (in_decoder : Bool) (w : Width) (n : ℕ) (e : Term) (ts more rest : List Token)
    → openings_at w ts ≡ Some (replicate n tt, more) → segment_at in_decoder w more ≡ Some (e, rest)
    → fold_at in_decoder w ts ≡ around in_decoder w e n rest
fold_around in_decoder w n e ts more rest h k =
    fold_begun in_decoder w (replicate n tt) ts more h
    ∙ ap (begun in_decoder w (replicate n tt)) k
    ∙ put_together (replicate n tt) e (times (length (replicate n tt)) (placed_at in_decoder w) rest)
    ∙ ap (λ m. around in_decoder w e m rest) (length-replicate n tt)

pub fold_no_segment : (in_decoder : Bool) (w : Width) (n : ℕ) (ts more : List Token) (f : ReadFault)
    → openings_at w ts ≡ Some (replicate n tt, more) → Fails f (segment_at in_decoder w more)
    → Fails f (fold_at in_decoder w ts)
fold_no_segment in_decoder w n ts more fault.NotSubset h k =
    fold_begun in_decoder w (replicate n tt) ts more h ∙ ap (begun in_decoder w (replicate n tt)) k
fold_no_segment in_decoder w n ts more fault.NoMemory h k = tt

pub fold_no_openings : (in_decoder : Bool) (w : Width) (ts : List Token) (f : ReadFault) → Fails f (openings_at w ts)
    → Fails f (fold_at in_decoder w ts)
fold_no_openings in_decoder w ts fault.NotSubset h = fold_opened in_decoder w ts ∙ ap (opened in_decoder w) h
fold_no_openings in_decoder w ts fault.NoMemory h = tt
