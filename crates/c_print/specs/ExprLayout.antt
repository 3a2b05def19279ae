-- The bytes of expressions, and of the line of an assignment (docs/C_SUBSET.md, "The text").
use Rattle.std.specs.Prelude.{ℕ, suc, List, [], ◌∷◌, ◌++◌, ℤ, pos, negsuc, Option, Some, None, codes, decimal}
use Rattle.dt_values.specs.declared.width.Width.{Width}
use Rattle.dt_text.specs.Pieces.{text, name, spaces, pieces_text}
use Rattle.c_exprs.specs.Exprs.{Source, insn, argument, Term, constant, segment, deposit, cast, function, applied}
use Rattle.c_exprs.specs.Spelling.{helper_digits, extract_word}

-- a->ARG, or u.f_S.ARG in the decoder
abbrev pub argument_text : Option (List ℕ) → List ℕ → List ℕ
argument_text None a = pieces_text (text (codes "a->") ∷ name a ∷ [])
argument_text (Some set) a = pieces_text (text (codes "u.f_") ∷ name set ∷ text (codes ".") ∷ name a ∷ [])

abbrev pub source_text : Source → List ℕ
source_text insn = pieces_text (text (codes "insn") ∷ [])
source_text (argument set a) = argument_text set a

-- -N where it is negative
abbrev pub constant_text : ℤ → List ℕ
constant_text (pos n) = pieces_text (name (decimal n) ∷ [])
constant_text (negsuc n) = pieces_text (text (codes "-") ∷ name (decimal (suc n)) ∷ [])

-- extractN( or depositN(
abbrev pub helper_text : List ℕ → Width → List ℕ
helper_text helper w = pieces_text (name helper ∷ name (helper_digits w) ∷ text (codes "(") ∷ [])

-- the two numbers that an extraction ends with
abbrev pub last_text : ℕ → ℕ → List ℕ
last_text place length =
    pieces_text (text (codes ", ") ∷ name (decimal place) ∷ text (codes ", ") ∷ name (decimal length)
    ∷ text (codes ")") ∷ [])

-- the two numbers between the expressions of a deposit
abbrev pub middle_text : ℕ → ℕ → List ℕ
middle_text place length =
    pieces_text (text (codes ", ") ∷ name (decimal place) ∷ text (codes ", ") ∷ name (decimal length)
    ∷ text (codes ", ") ∷ [])

-- (intN_t)
abbrev pub cast_text : Width → List ℕ
cast_text w = pieces_text (text (codes "(int") ∷ name (helper_digits w) ∷ text (codes "_t)") ∷ [])

-- NAME(ctx)
abbrev pub function_text : List ℕ → List ℕ
function_text f = pieces_text (name f ∷ text (codes "(ctx)") ∷ [])

-- NAME(ctx, and what follows
abbrev pub applied_text : List ℕ → List ℕ
applied_text f = pieces_text (name f ∷ text (codes "(ctx, ") ∷ [])

abbrev pub close_text : List ℕ
close_text = pieces_text (text (codes ")") ∷ [])

abbrev pub expr_text : Width → Term → List ℕ
expr_text w (constant z) = constant_text z
expr_text w (segment signed from place length) =
    helper_text (extract_word signed) w ++ (source_text from ++ last_text place length)
expr_text w (deposit into place length part) =
    helper_text (codes "deposit") w
    ++ (expr_text w into ++ (middle_text place length ++ (expr_text w part ++ close_text)))
expr_text w (cast e) = cast_text w ++ expr_text w e
expr_text w (function f) = function_text f
expr_text w (applied f e) = applied_text f ++ (expr_text w e ++ close_text)

abbrev pub indent_text : ℕ → List ℕ
indent_text level = pieces_text (spaces level ∷ [])

abbrev pub equals_text : List ℕ
equals_text = pieces_text (text (codes " = ") ∷ [])

abbrev pub line_end : List ℕ
line_end = pieces_text (text (codes ";\n") ∷ [])

-- ARGUMENT = EXPR; so many spaces from the left
abbrev pub assign_line : Width → ℕ → Option (List ℕ) → List ℕ → Term → List ℕ
assign_line w level set a e =
    indent_text level ++ (argument_text set a ++ (equals_text ++ (expr_text w e ++ line_end)))
