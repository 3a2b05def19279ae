-- Expressions and assignments are read exactly.
use Rattle.std.proofs.Common.{◌≡◌, ℕ, List, [], ◌∷◌, ◌++◌, Bool, true, false, Option, Some, None, refl, sym, ap, subst}
use Rattle.std.proofs.Common.{◌⊎◌, inl, inr}
use Rattle.std.specs.Prelude.{pos, negsuc, codes}
use Rattle.dt_values.specs.Names.{IsName}
use Rattle.dt_values.specs.declared.width.Width.{Width}
use Rattle.c_tokens.specs.Tokens.{Token, word, arrow}
use Rattle.c_tokens.specs.Marks.{open_round, close_round, semicolon, comma, dot, equals}
use Rattle.c_tokens.specs.Parsing.{after, begins, begins_second, is_constant, closed}
use Rattle.c_tokens.proofs.Exact.{Reads, Any, begins_again, behind_reads, closed_reads, both_reads, Made, made_reads}
use Rattle.c_tokens.proofs.Exact.{choose_reads, known_reads, found_reads, weaken_reads}
use Rattle.c_exprs.specs.Exprs.{Source, insn, argument, Term, constant, segment, deposit, cast, function, applied}
use Rattle.c_exprs.specs.Exprs.{Assignment}
use Rattle.c_exprs.specs.Forms.{ConstantFits, TermKeeps, StandsIn, AssignmentKeeps}
use Rattle.c_exprs.specs.Spelling.{source_spelled, expr_spelled, assign_spelled, assignment_spelled}
use Rattle.c_exprs.specs.ExprParsing.{cast_open, value_at, plain_at, ctx_open, calls_function, call_rest_at, call_of}
use Rattle.c_exprs.specs.ExprParsing.{function_at, expr_at, assignment_of, assignment_at, set_argument_at}
use Rattle.c_exprs.specs.ExprParsing.{set_assignment_at}
use Rattle.c_exprs.proofs.Fits.{IsFold, IsValue, IsPlain, TermFits, fits_there, fits_back}
use Rattle.c_exprs.proofs.SegmentsRead.{name_reads, set_reads}
use Rattle.c_exprs.proofs.FoldsRead.{fold_reads}
use Rattle.c_exprs.proofs.ConstantsRead.{constant_reads, constant_first}

-- segments with or without a cast
value_there : (in_decoder : Bool) (e : Term) → IsValue in_decoder e
    → Made cast (IsFold in_decoder) e ⊎ IsFold in_decoder e
value_there in_decoder (constant z) h = absurd h
value_there in_decoder (segment s from place length) h = inr h
value_there in_decoder (deposit e p l s) h = inr h
value_there in_decoder (cast e) h = inl (e, h, refl)
value_there in_decoder (function f) h = absurd h
value_there in_decoder (applied f e) h = absurd h

fold_value : (in_decoder : Bool) (e : Term) → IsFold in_decoder e → IsValue in_decoder e
fold_value in_decoder (constant z) h = absurd h
fold_value in_decoder (segment s from place length) h = h
fold_value in_decoder (deposit e p l s) h = h
fold_value in_decoder (cast e) h = absurd h
fold_value in_decoder (function f) h = absurd h
fold_value in_decoder (applied f e) h = absurd h

value_back : (in_decoder : Bool) (e : Term) → Made cast (IsFold in_decoder) e ⊎ IsFold in_decoder e
    → IsValue in_decoder e
value_back in_decoder e (inl h) = subst (IsValue in_decoder) h.2 h.1
value_back in_decoder e (inr h) = fold_value in_decoder e h

is_cast : (in_decoder : Bool) (w : Width) (e : Term) (rest : List Token) → Made cast (IsFold in_decoder) e → Any rest
    → begins (cast_open w) (expr_spelled w e ++ rest) ≡ true
is_cast in_decoder w e rest h k =
    subst (λ x. begins (cast_open w) (expr_spelled w x ++ rest) ≡ true) h.2 (begins_again (cast_open w) _)

no_cast : (in_decoder : Bool) (w : Width) (e : Term) (rest : List Token) → IsFold in_decoder e → Any rest
    → begins (cast_open w) (expr_spelled w e ++ rest) ≡ false
unfolding begins after
no_cast in_decoder w (constant z) rest h k = absurd h
no_cast in_decoder w (segment s from place length) rest h k = refl
no_cast in_decoder w (deposit e p l s) rest h k = refl
no_cast in_decoder w (cast e) rest h k = absurd h
no_cast in_decoder w (function f) rest h k = absurd h
no_cast in_decoder w (applied f e) rest h k = absurd h

value_reads : (in_decoder : Bool) (w : Width)
    → Reads Any (IsValue in_decoder) (expr_spelled w) (value_at in_decoder w)
unfolding value_at
value_reads in_decoder w =
    known_reads (value_there in_decoder) (value_back in_decoder) (λ e h. refl)
    (choose_reads (begins (cast_open w)) (is_cast in_decoder w) (no_cast in_decoder w)
    (made_reads cast (expr_spelled w) (λ x h. refl) (behind_reads (cast_open w) (fold_reads in_decoder w)))
    (fold_reads in_decoder w))

-- what a function may be asked for
plain_there : (in_decoder : Bool) (e : Term) → IsPlain in_decoder e
    → Made constant ConstantFits e ⊎ IsValue in_decoder e
plain_there in_decoder (constant z) h = inl (z, h, refl)
plain_there in_decoder (segment s from place length) h = inr h
plain_there in_decoder (deposit e p l s) h = inr h
plain_there in_decoder (cast e) h = inr h
plain_there in_decoder (function f) h = absurd h
plain_there in_decoder (applied f e) h = absurd h

value_plain : (in_decoder : Bool) (e : Term) → IsValue in_decoder e → IsPlain in_decoder e
value_plain in_decoder (constant z) h = absurd h
value_plain in_decoder (segment s from place length) h = h
value_plain in_decoder (deposit e p l s) h = h
value_plain in_decoder (cast e) h = h
value_plain in_decoder (function f) h = absurd h
value_plain in_decoder (applied f e) h = absurd h

plain_back : (in_decoder : Bool) (e : Term) → Made constant ConstantFits e ⊎ IsValue in_decoder e
    → IsPlain in_decoder e
plain_back in_decoder e (inl h) = subst (IsPlain in_decoder) h.2 h.1
plain_back in_decoder e (inr h) = value_plain in_decoder e h

is_number : (w : Width) (e : Term) (rest : List Token) → Made constant ConstantFits e → Any rest
    → is_constant (expr_spelled w e ++ rest) ≡ true
is_number w e rest h k =
    subst (λ x. is_constant (expr_spelled w x ++ rest) ≡ true) h.2 (constant_first h.0 rest h.1)

no_number : (in_decoder : Bool) (w : Width) (e : Term) (rest : List Token) → IsValue in_decoder e → Any rest
    → is_constant (expr_spelled w e ++ rest) ≡ false
unfolding is_constant
no_number in_decoder w (constant z) rest h k = absurd h
no_number in_decoder w (segment true from place length) rest h k = refl
no_number in_decoder w (segment false from place length) rest h k = refl
no_number in_decoder w (deposit e p l s) rest h k = refl
no_number in_decoder w (cast e) rest h k = refl
no_number in_decoder w (function f) rest h k = absurd h
no_number in_decoder w (applied f e) rest h k = absurd h

plain_reads : (in_decoder : Bool) (w : Width)
    → Reads Any (IsPlain in_decoder) (expr_spelled w) (plain_at in_decoder w)
unfolding plain_at
plain_reads in_decoder w =
    known_reads (plain_there in_decoder) (plain_back in_decoder) (λ e h. refl)
    (choose_reads is_constant (is_number w) (no_number in_decoder w)
    (made_reads constant (expr_spelled w) (λ x h. refl) constant_reads)
    (value_reads in_decoder w))

-- functions
abbrev call_rest : Width → Option Term → List Token
call_rest w None = close_round ∷ []
call_rest w (Some e) = comma ∷ (expr_spelled w e ++ close_round ∷ [])

abbrev RestFits : Bool → Option Term → Type 0
RestFits in_decoder None = Unit {0}
RestFits in_decoder (Some e) = IsPlain in_decoder e

abbrev a_term : Term → Option Term
a_term e = Some e

abbrev no_term : Option Term
no_term = None

rest_there : (in_decoder : Bool) (o : Option Term) → RestFits in_decoder o
    → Made a_term (IsPlain in_decoder) o ⊎ (o ≡ no_term)
rest_there in_decoder None h = inr refl
rest_there in_decoder (Some e) h = inl (e, h, refl)

rest_back : (in_decoder : Bool) (o : Option Term) → Made a_term (IsPlain in_decoder) o ⊎ (o ≡ no_term)
    → RestFits in_decoder o
rest_back in_decoder o (inl h) = subst (RestFits in_decoder) h.2 h.1
rest_back in_decoder o (inr h) = subst (RestFits in_decoder) (sym h) tt

has_comma : (in_decoder : Bool) (w : Width) (o : Option Term) (rest : List Token)
    → Made a_term (IsPlain in_decoder) o → Any rest → begins (comma ∷ []) (call_rest w o ++ rest) ≡ true
has_comma in_decoder w o rest h k =
    subst (λ x. begins (comma ∷ []) (call_rest w x ++ rest) ≡ true) h.2 (begins_again (comma ∷ []) _)

closes_at_once : (rest : List Token) → begins (comma ∷ []) (close_round ∷ rest) ≡ false
unfolding begins after
closes_at_once rest = refl

no_comma : (w : Width) (o : Option Term) (rest : List Token) → o ≡ no_term → Any rest
    → begins (comma ∷ []) (call_rest w o ++ rest) ≡ false
no_comma w o rest h k =
    subst (λ x. begins (comma ∷ []) (call_rest w x ++ rest) ≡ false) (sym h) (closes_at_once rest)

call_rest_reads : (in_decoder : Bool) (w : Width)
    → Reads Any (RestFits in_decoder) (call_rest w) (call_rest_at in_decoder w)
unfolding call_rest_at
call_rest_reads in_decoder w =
    known_reads (rest_there in_decoder) (rest_back in_decoder) (λ o h. refl)
    (choose_reads (begins (comma ∷ [])) (has_comma in_decoder w) (no_comma w)
    (made_reads a_term (call_rest w) (λ x h. refl)
    (behind_reads (comma ∷ []) (closed_reads (close_round ∷ []) (λ rest. tt) (plain_reads in_decoder w))))
    (known_reads (λ o h. h) (λ o h. h) (λ o h. ap (call_rest w) h)
    (behind_reads (close_round ∷ []) (found_reads no_term))))

abbrev CallFits : Bool → List ℕ × Option Term → Type 0
CallFits in_decoder x = IsName x.0 × RestFits in_decoder x.1

same_call : (w : Width) (in_decoder : Bool) (x : List ℕ × Option Term) → CallFits in_decoder x
    → expr_spelled w (call_of x) ≡ (word x.0 ∷ ctx_open) ++ call_rest w x.1
same_call w in_decoder (f, None) h = refl
same_call w in_decoder (f, Some e) h = refl

function_reads : (in_decoder : Bool) (w : Width)
    → Reads Any (Made call_of (CallFits in_decoder)) (expr_spelled w) (function_at in_decoder w)
unfolding function_at
function_reads in_decoder w =
    made_reads call_of (expr_spelled w) (same_call w in_decoder)
    (both_reads (λ y rest h k. tt) (closed_reads ctx_open (λ rest. tt) name_reads) (call_rest_reads in_decoder w))

-- A number is a name too: what stands behind it tells it from a function.
abbrev pub NotCalled : List Token → Type 0
NotCalled rest = begins ctx_open rest ≡ false

expr_there : (in_decoder : Bool) (e : Term) → TermFits in_decoder e
    → Made call_of (CallFits in_decoder) e ⊎ IsPlain in_decoder e
expr_there in_decoder (constant z) h = inr h
expr_there in_decoder (segment s from place length) h = inr h
expr_there in_decoder (deposit e p l s) h = inr h
expr_there in_decoder (cast e) h = inr h
expr_there in_decoder (function f) h = inl ((f, None), (h, tt), refl)
expr_there in_decoder (applied f e) h = inl ((f, Some e), h, refl)

call_back : (in_decoder : Bool) (x : List ℕ × Option Term) → CallFits in_decoder x → TermFits in_decoder (call_of x)
call_back in_decoder (f, None) h = h.0
call_back in_decoder (f, Some e) h = h

plain_expr : (in_decoder : Bool) (e : Term) → IsPlain in_decoder e → TermFits in_decoder e
plain_expr in_decoder (constant z) h = h
plain_expr in_decoder (segment s from place length) h = h
plain_expr in_decoder (deposit e p l s) h = h
plain_expr in_decoder (cast e) h = h
plain_expr in_decoder (function f) h = absurd h
plain_expr in_decoder (applied f e) h = absurd h

expr_back : (in_decoder : Bool) (e : Term) → Made call_of (CallFits in_decoder) e ⊎ IsPlain in_decoder e
    → TermFits in_decoder e
expr_back in_decoder e (inl h) = subst (TermFits in_decoder) h.2 (call_back in_decoder h.0 h.1)
expr_back in_decoder e (inr h) = plain_expr in_decoder e h

call_first : (w : Width) (x : List ℕ × Option Term) (rest : List Token)
    → calls_function (expr_spelled w (call_of x) ++ rest) ≡ true
unfolding begins_second begins after
call_first w (f, None) rest = refl
call_first w (f, Some e) rest = refl

is_call : (in_decoder : Bool) (w : Width) (e : Term) (rest : List Token) → Made call_of (CallFits in_decoder) e
    → NotCalled rest → calls_function (expr_spelled w e ++ rest) ≡ true
is_call in_decoder w e rest h k =
    subst (λ x. calls_function (expr_spelled w x ++ rest) ≡ true) h.2 (call_first w h.0 rest)

fold_no_ctx : (in_decoder : Bool) (w : Width) (e : Term) (ts rest : List Token) → IsFold in_decoder e
    → begins ctx_open (open_round ∷ ((expr_spelled w e ++ ts) ++ rest)) ≡ false
unfolding begins after
fold_no_ctx in_decoder w (constant z) ts rest h = absurd h
fold_no_ctx in_decoder w (segment true from place length) ts rest h = refl
fold_no_ctx in_decoder w (segment false from place length) ts rest h = refl
fold_no_ctx in_decoder w (deposit e p l s) ts rest h = refl
fold_no_ctx in_decoder w (cast e) ts rest h = absurd h
fold_no_ctx in_decoder w (function f) ts rest h = absurd h
fold_no_ctx in_decoder w (applied f e) ts rest h = absurd h

source_no_ctx : (from : Source) (ts rest : List Token)
    → begins ctx_open (open_round ∷ ((source_spelled from ++ ts) ++ rest)) ≡ false
unfolding begins after
source_no_ctx insn ts rest = refl
source_no_ctx (argument None a) ts rest = refl
source_no_ctx (argument (Some s) a) ts rest = refl

word_no_ctx : (w : List ℕ) (ts : List Token) → begins ctx_open (word w ∷ ts) ≡ false
unfolding begins after
word_no_ctx w ts = refl

no_call : (in_decoder : Bool) (w : Width) (e : Term) (rest : List Token) → IsPlain in_decoder e → NotCalled rest
    → calls_function (expr_spelled w e ++ rest) ≡ false
unfolding begins_second
no_call in_decoder w (constant (pos n)) rest h k = k
no_call in_decoder w (constant (negsuc n)) rest h k = word_no_ctx _ rest
no_call in_decoder w (segment s from place length) rest h k = source_no_ctx from _ rest
no_call in_decoder w (deposit e p l s) rest h k = fold_no_ctx in_decoder w e _ rest h.0
no_call in_decoder w (cast e) rest h k = word_no_ctx _ _
no_call in_decoder w (function f) rest h k = absurd h
no_call in_decoder w (applied f e) rest h k = absurd h

fitting_reads : (in_decoder : Bool) (w : Width)
    → Reads NotCalled (TermFits in_decoder) (expr_spelled w) (expr_at in_decoder w)
unfolding expr_at
fitting_reads in_decoder w =
    known_reads (expr_there in_decoder) (expr_back in_decoder) (λ e h. refl)
    (choose_reads calls_function (is_call in_decoder w) (no_call in_decoder w)
    (weaken_reads (function_reads in_decoder w))
    (weaken_reads (plain_reads in_decoder w)))

pub expr_reads : (in_decoder : Bool) (w : Width)
    → Reads NotCalled (λ e. TermKeeps e × StandsIn in_decoder e) (expr_spelled w) (expr_at in_decoder w)
expr_reads in_decoder w =
    known_reads (fits_there in_decoder) (fits_back in_decoder) (λ e h. refl) (fitting_reads in_decoder w)

-- assignments
semicolon_ends : (rest : List Token) → NotCalled ((semicolon ∷ []) ++ rest)
unfolding begins after
semicolon_ends rest = refl

value_end_reads : (in_decoder : Bool) (w : Width)
    → Reads Any (λ e. TermKeeps e × StandsIn in_decoder e) (λ e. expr_spelled w e ++ semicolon ∷ [])
    (closed (expr_at in_decoder w) (semicolon ∷ []))
value_end_reads in_decoder w = closed_reads (semicolon ∷ []) semicolon_ends (expr_reads in_decoder w)

abbrev AssignmentFits : List ℕ × Term → Type 0
AssignmentFits x = IsName x.0 × (TermKeeps x.1 × StandsIn false x.1)

assignment_there : (a : Assignment) → AssignmentKeeps a → Made assignment_of AssignmentFits a
assignment_there a h = ((a.argument, a.value), (h.argument, (h.value, h.place)), refl)

assignment_back : (a : Assignment) → Made assignment_of AssignmentFits a → AssignmentKeeps a
assignment_back a h =
    subst AssignmentKeeps h.2 (record { argument = h.1.0; value = h.1.1.0; place = h.1.1.1 })

pub assignment_reads : (w : Width) → Reads Any AssignmentKeeps (assignment_spelled w) (assignment_at w)
unfolding assignment_at
assignment_reads w =
    known_reads assignment_there assignment_back (λ a h. refl)
    (made_reads assignment_of (assignment_spelled w) (λ x h. refl)
    (both_reads (λ y rest h k. tt)
    (behind_reads (word (codes "a") ∷ arrow ∷ []) (closed_reads (equals ∷ []) (λ rest. tt) name_reads))
    (value_end_reads false w)))

-- an assignment of the decoder: its set, its argument and its value
abbrev pub SetAssignment : Type 0
SetAssignment = (List ℕ × List ℕ) × Term

abbrev pub SetAssignmentKeeps : SetAssignment → Type 0
SetAssignmentKeeps x = (IsName x.0.0 × IsName x.0.1) × (TermKeeps x.1 × StandsIn true x.1)

abbrev pub set_assignment_spelled : Width → SetAssignment → List Token
set_assignment_spelled w x = assign_spelled w (Some x.0.0) x.0.1 x.1

pub set_assignment_reads : (w : Width)
    → Reads Any SetAssignmentKeeps (set_assignment_spelled w) (set_assignment_at w)
unfolding set_assignment_at set_argument_at
set_assignment_reads w =
    known_reads (λ x h. h) (λ x h. h) (λ x h. refl)
    (both_reads (λ y rest h k. tt)
    (behind_reads (word (codes "u") ∷ dot ∷ []) (both_reads (λ y rest h k. tt) set_reads
    (behind_reads (dot ∷ []) (closed_reads (equals ∷ []) (λ rest. tt) name_reads))))
    (value_end_reads true w))
