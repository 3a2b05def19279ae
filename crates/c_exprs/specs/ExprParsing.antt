-- The readers of expressions and assignments (docs/C_SUBSET.md, "Expressions").
use Rattle.std.specs.Prelude.{ℤ, pos, negsuc, ℕ, zero, suc, ◌==◌, ◌+◌, ◌^◌, Bool, true, false, List, [], ◌∷◌, ◌++◌}
use Rattle.std.specs.Prelude.{length, Option, Some, None, option_map, option_and_then, codes}
use Rattle.dt_values.specs.declared.width.Width.{Width}
use Rattle.c_tokens.specs.Tokens.{Token, word, arrow}
use Rattle.c_tokens.specs.Marks.{open_round, close_round, semicolon, comma, dot, minus, equals}
use Rattle.c_tokens.specs.Parsing.{Parse, begins, begins_second, is_constant, behind, closed, both, then_each}
use Rattle.c_tokens.specs.Parsing.{made, choose, guarded, word_as, turn, many, found}
use Rattle.c_tokens.specs.WordParsing.{number_of}
use Rattle.c_tokens.specs.Front.{name_at, name_behind_at, number_at}
use Rattle.c_exprs.specs.Exprs.{Source, insn, argument, Term, constant, segment, deposit, cast, Assignment}
use Rattle.c_exprs.specs.Spelling.{helper_digits, extract_word}
use Rattle.c_exprs.specs.View.{applied_to}

abbrev pub set_argument : List ℕ × List ℕ → Source
set_argument x = argument (Some x.0) x.1

-- a->ARG, or u.f_S.ARG in the decoder
unfoldable pub argument_at : Bool → Parse Source
argument_at false = made (argument None) (behind (word (codes "a") ∷ arrow ∷ []) name_at)
argument_at true =
    made set_argument
    (behind (word (codes "u") ∷ dot ∷ []) (both (name_behind_at (codes "f_")) (behind (dot ∷ []) name_at)))

abbrev pub insn_word : List Token
insn_word = word (codes "insn") ∷ []

unfoldable pub source_at : Bool → Parse Source
source_at in_decoder = choose (begins insn_word) (behind insn_word (found insn)) (argument_at in_decoder)

abbrev pub sign_open : Width → Bool → List Token
sign_open w signed = word (extract_word signed ++ helper_digits w) ∷ []

-- extractN or sextractN
unfoldable pub sign_at : Width → Parse Bool
sign_at w =
    choose (begins (sign_open w true))
    (behind (sign_open w true) (found true))
    (behind (sign_open w false) (found false))

-- bits of an argument are its lowest
abbrev pub begins_right : Source → ℕ → Bool
begins_right insn place = true
begins_right (argument set name) place = place == 0

abbrev pub SegmentParts : Type 0
SegmentParts = Bool × (Source × (ℕ × ℕ))

abbrev pub segment_of : SegmentParts → Term
segment_of x = segment x.0 x.1.0 x.1.1.0 x.1.1.1

abbrev pub parts_begin_right : SegmentParts → Bool
parts_begin_right x = begins_right x.1.0 x.1.1.0

-- (FROM, POS, LENGTH)
unfoldable pub segment_rest_at : Bool → Parse (Source × (ℕ × ℕ))
segment_rest_at in_decoder =
    behind (open_round ∷ []) (both (source_at in_decoder)
    (behind (comma ∷ []) (both number_at
    (behind (comma ∷ []) (closed number_at (close_round ∷ []))))))

unfoldable pub segment_at : Bool → Width → Parse Term
segment_at in_decoder w =
    made segment_of (guarded parts_begin_right (both (sign_at w) (segment_rest_at in_decoder)))

abbrev pub deposit_open : Width → List Token
deposit_open w = word (codes "deposit" ++ helper_digits w) ∷ open_round ∷ []

-- what stands behind the first part of a deposit: its place, its length and its other part
abbrev pub Placed : Type 0
Placed = ℕ × (ℕ × Term)

-- , POS, LENGTH, SEGMENT)
unfoldable pub placed_at : Bool → Width → Parse Placed
placed_at in_decoder w =
    behind (comma ∷ []) (both number_at
    (behind (comma ∷ []) (both number_at
    (behind (comma ∷ []) (closed (segment_at in_decoder w) (close_round ∷ []))))))

-- Deposits nest in their first part without limit, so they are read by their number: first what opens each of them.
unfoldable pub opening_at : Width → Parse (Unit {0})
opening_at w = behind (deposit_open w) (found tt)

unfoldable pub openings_at : Width → Parse (List (Unit {0}))
openings_at w = many (begins (deposit_open w)) (opening_at w)

-- what p reads, so many times
unfoldable pub times : {A : Type 0} → ℕ → Parse A → Parse (List A)
times zero p ts = Some ([], ts)
times (suc n) p ts = turn p (times n p) ts

-- each of these is put into all that stands before it
abbrev pub deposited : Term → List Placed → Term
deposited e [] = e
deposited e (x ∷ xs) = deposited (deposit e x.0 x.1.0 x.1.1) xs

abbrev pub FoldParts : Type 0
FoldParts = List (Unit {0}) × (Term × List Placed)

abbrev pub fold_of : FoldParts → Term
fold_of x = deposited x.1.0 x.1.1

-- the innermost segment, and then as many parts as deposits were opened
unfoldable pub folded_at : Bool → Width → List (Unit {0}) → Parse (Term × List Placed)
folded_at in_decoder w openings = both (segment_at in_decoder w) (times (length openings) (placed_at in_decoder w))

-- a segment, or deposits
unfoldable pub fold_at : Bool → Width → Parse Term
fold_at in_decoder w = made fold_of (then_each (openings_at w) (folded_at in_decoder w))

abbrev pub positive_of : List ℕ → Option ℤ
positive_of w = option_map pos (number_of (2 ^ 63) w)

-- no sign stands before a zero
abbrev pub below_zero : ℕ → Option ℤ
below_zero zero = None
below_zero (suc n) = Some (negsuc n)

abbrev pub negative_of : List ℕ → Option ℤ
negative_of w = option_and_then below_zero (number_of (2 ^ 63 + 1) w)

unfoldable pub constant_at : Parse ℤ
constant_at = choose (begins (minus ∷ [])) (behind (minus ∷ []) (word_as negative_of)) (word_as positive_of)

abbrev pub cast_open : Width → List Token
cast_open w = open_round ∷ word (codes "int" ++ (helper_digits w ++ codes "_t")) ∷ close_round ∷ []

-- segments with or without a cast
unfoldable pub value_at : Bool → Width → Parse Term
value_at in_decoder w =
    choose (begins (cast_open w))
    (made cast (behind (cast_open w) (fold_at in_decoder w)))
    (fold_at in_decoder w)

-- what a function may be asked for
unfoldable pub plain_at : Bool → Width → Parse Term
plain_at in_decoder w = choose is_constant (made constant constant_at) (value_at in_decoder w)

abbrev pub ctx_open : List Token
ctx_open = open_round ∷ word (codes "ctx") ∷ []

-- a function is known by the tokens behind its name
abbrev pub calls_function : List Token → Bool
calls_function = begins_second ctx_open

-- , EXPR) or )
unfoldable pub call_rest_at : Bool → Width → Parse (Option Term)
call_rest_at in_decoder w =
    choose (begins (comma ∷ []))
    (made Some (behind (comma ∷ []) (closed (plain_at in_decoder w) (close_round ∷ []))))
    (behind (close_round ∷ []) (found None))

abbrev pub call_of : List ℕ × Option Term → Term
call_of x = applied_to x.0 x.1

unfoldable pub function_at : Bool → Width → Parse Term
function_at in_decoder w = made call_of (both (closed name_at ctx_open) (call_rest_at in_decoder w))

unfoldable pub expr_at : Bool → Width → Parse Term
expr_at in_decoder w = choose calls_function (function_at in_decoder w) (plain_at in_decoder w)

abbrev pub assignment_of : List ℕ × Term → Assignment
assignment_of x = record { argument = x.0; value = x.1 }

-- a->ARG = EXPR;
unfoldable pub assignment_at : Width → Parse Assignment
assignment_at w =
    made assignment_of
    (both (behind (word (codes "a") ∷ arrow ∷ []) (closed name_at (equals ∷ [])))
    (closed (expr_at false w) (semicolon ∷ [])))

-- u.f_S.ARG =
unfoldable pub set_argument_at : Parse (List ℕ × List ℕ)
set_argument_at =
    behind (word (codes "u") ∷ dot ∷ [])
    (both (name_behind_at (codes "f_")) (behind (dot ∷ []) (closed name_at (equals ∷ []))))

-- u.f_S.ARG = EXPR;
unfoldable pub set_assignment_at : Width → Parse ((List ℕ × List ℕ) × Term)
set_assignment_at w = both set_argument_at (closed (expr_at true w) (semicolon ∷ []))
