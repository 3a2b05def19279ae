-- How expressions and assignments are spelled in tokens (docs/C_SUBSET.md, "Expressions").
use Rattle.std.specs.Prelude.{ℕ, suc, Bool, true, false, List, [], ◌∷◌, ◌++◌, ℤ, pos, negsuc, Option, Some, None, codes}
use Rattle.std.specs.Prelude.{decimal}
use Rattle.dt_values.specs.declared.width.Width.{Width}
use Rattle.dt_values.specs.declared.width.Width.TheVariants.{W16, W32, W64}
use Rattle.c_exprs.specs.Exprs.{Source, insn, argument, Term, constant, segment, deposit, cast, function, applied}
use Rattle.c_exprs.specs.Exprs.{Assignment}
use Rattle.c_tokens.specs.Marks.{open_round, close_round, semicolon, comma, dot, minus, equals, f_}
use Rattle.c_tokens.specs.Tokens.{Token, word, arrow}

-- the helpers of a width have its number of bits in their names, and at 16 bits those of 32
abbrev pub helper_digits : Width → List ℕ
helper_digits W16 = codes "32"
helper_digits W32 = codes "32"
helper_digits W64 = codes "64"

abbrev pub extract_word : Bool → List ℕ
extract_word true = codes "sextract"
extract_word false = codes "extract"

-- a->ARG, or u.f_S.ARG in the decoder
abbrev pub argument_spelled : Option (List ℕ) → List ℕ → List Token
argument_spelled None name = word (codes "a") ∷ arrow ∷ word name ∷ []
argument_spelled (Some set) name = word (codes "u") ∷ dot ∷ f_ set ∷ dot ∷ word name ∷ []

abbrev pub source_spelled : Source → List Token
source_spelled insn = word (codes "insn") ∷ []
source_spelled (argument set name) = argument_spelled set name

-- -N where it is negative
abbrev pub constant_spelled : ℤ → List Token
constant_spelled (pos n) = word (decimal n) ∷ []
constant_spelled (negsuc n) = minus ∷ word (decimal (suc n)) ∷ []

-- extractN(FROM, POS, LENGTH), sextractN(..), depositN(INTO, POS, LENGTH, PART), (intN_t)EXPR, NAME(ctx), NAME(ctx, EXPR)
abbrev pub expr_spelled : Width → Term → List Token
expr_spelled w (constant z) = constant_spelled z
expr_spelled w (segment signed from place length) =
    (word (extract_word signed ++ helper_digits w) ∷ open_round ∷ [])
    ++ (source_spelled from
    ++ (comma ∷ word (decimal place) ∷ comma ∷ word (decimal length) ∷ close_round ∷ []))
expr_spelled w (deposit into place length part) =
    (word (codes "deposit" ++ helper_digits w) ∷ open_round ∷ [])
    ++ (expr_spelled w into
    ++ ((comma ∷ word (decimal place) ∷ comma ∷ word (decimal length) ∷ comma ∷ [])
    ++ (expr_spelled w part ++ close_round ∷ [])))
expr_spelled w (cast e) =
    (open_round ∷ word (codes "int" ++ (helper_digits w ++ codes "_t")) ∷ close_round ∷ []) ++ expr_spelled w e
expr_spelled w (function name) = word name ∷ open_round ∷ word (codes "ctx") ∷ close_round ∷ []
expr_spelled w (applied name e) =
    (word name ∷ open_round ∷ word (codes "ctx") ∷ comma ∷ []) ++ (expr_spelled w e ++ close_round ∷ [])

-- ARGUMENT = EXPR;
abbrev pub assign_spelled : Width → Option (List ℕ) → List ℕ → Term → List Token
assign_spelled w set name e = argument_spelled set name ++ (equals ∷ (expr_spelled w e ++ semicolon ∷ []))

-- a->ARG = EXPR; for each of these
abbrev pub assignment_spelled : Width → Assignment → List Token
assignment_spelled w a = assign_spelled w None a.argument a.value
