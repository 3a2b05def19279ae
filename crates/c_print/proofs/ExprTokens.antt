-- The line of an assignment has the tokens that spell it.
use Rattle.std.proofs.Common.{◌≡◌, ℕ, suc, ◌<◌, ◌^◌, Bool, true, false, List, [], ◌∷◌, ◌++◌, ℤ, pos, negsuc, Option}
use Rattle.std.proofs.Common.{Some, None, refl, arith, lit<}
use Rattle.std.specs.Prelude.{codes, decimal}
use Rattle.dt_values.specs.Names.{IsName}
use Rattle.dt_values.specs.declared.width.Width.{Width}
use Rattle.dt_values.specs.declared.width.Width.TheVariants.{W16, W32, W64}
use Rattle.c_tokens.specs.Bytes.{IsWord}
use Rattle.c_exprs.specs.Exprs.{Source, insn, argument, Term, constant, segment, deposit, cast, function, applied}
use Rattle.c_exprs.specs.Forms.{ArgumentNamed, SourceNamed, ConstantFits, HasNames}
use Rattle.c_exprs.specs.Spelling.{helper_digits, extract_word, argument_spelled, source_spelled, constant_spelled}
use Rattle.c_exprs.specs.Spelling.{expr_spelled, assign_spelled}
use Rattle.c_tokens.specs.Marks.{open_round, close_round, semicolon, comma, minus, equals, dot, f_}
use Rattle.c_tokens.specs.Tokens.{word, arrow, read, tokens_of}
use Rattle.c_tokens.proofs.Lexing.{Lexes, line_lexes, lexes_append, tokens_from}
use Rattle.c_tokens.proofs.Seeing.{see}
use Rattle.c_tokens.proofs.WordBytes.{decimal_word_is, name_is_word}
use Rattle.c_print.specs.ExprLayout.{argument_text, source_text, constant_text, helper_text, last_text, middle_text}
use Rattle.c_print.specs.ExprLayout.{cast_text}
use Rattle.c_print.specs.ExprLayout.{function_text, applied_text, close_text, expr_text, indent_text, equals_text}
use Rattle.c_print.specs.ExprLayout.{line_end, assign_line}
use Rattle.c_print.proofs.WordEnds.{Opens, closed, pieces_open, open_after, EndWords, pieces_end, end_by_first, close}

-- ---- words that a width or a sign decides
digits_are : (w : Width) → IsWord (helper_digits w)
digits_are W16 = record { some = lit< tt; letters = refl }
digits_are W32 = record { some = lit< tt; letters = refl }
digits_are W64 = record { some = lit< tt; letters = refl }

extract_is : (sign : Bool) → IsWord (extract_word sign)
extract_is true = record { some = lit< tt; letters = refl }
extract_is false = record { some = lit< tt; letters = refl }

deposit_is : IsWord (codes "deposit")
deposit_is = record { some = lit< tt; letters = refl }

number_is : (n : ℕ) → n < 2 ^ 32 → IsWord (decimal n)
number_is n small = decimal_word_is n (omega arith)

-- ---- what stands between expressions
helper_lexes : (helper : List ℕ) (w : Width) → IsWord helper
    → Lexes (helper_text helper w) (word (helper ++ helper_digits w) ∷ open_round ∷ [])
unfolding see read
helper_lexes helper w h = line_lexes _ _ (h, (digits_are w, (tt, tt))) refl

last_lexes : (place length : ℕ) → place < 2 ^ 32 → length < 2 ^ 32
    → Lexes (last_text place length) (comma ∷ word (decimal place) ∷ comma ∷ word (decimal length) ∷ close_round ∷ [])
unfolding see read
last_lexes place length h k = line_lexes _ _ (tt, (number_is place h, (tt, (number_is length k, (tt, tt))))) refl

last_ends : (place length : ℕ) → EndWords (last_text place length)
last_ends place length = pieces_end 44 (codes " ") _ refl

middle_lexes : (place length : ℕ) → place < 2 ^ 32 → length < 2 ^ 32
    → Lexes (middle_text place length) (comma ∷ word (decimal place) ∷ comma ∷ word (decimal length) ∷ comma ∷ [])
unfolding see read
middle_lexes place length h k = line_lexes _ _ (tt, (number_is place h, (tt, (number_is length k, (tt, tt))))) refl

middle_ends : (place length : ℕ) → EndWords (middle_text place length)
middle_ends place length = pieces_end 44 (codes " ") _ refl

cast_lexes : (w : Width)
    → Lexes (cast_text w) (open_round ∷ word (codes "int" ++ (helper_digits w ++ codes "_t")) ∷ close_round ∷ [])
unfolding see read
cast_lexes W16 = line_lexes _ _ (tt, (digits_are W16, (tt, tt))) refl
cast_lexes W32 = line_lexes _ _ (tt, (digits_are W32, (tt, tt))) refl
cast_lexes W64 = line_lexes _ _ (tt, (digits_are W64, (tt, tt))) refl

function_lexes : (f : List ℕ) → IsName f
    → Lexes (function_text f) (word f ∷ open_round ∷ word (codes "ctx") ∷ close_round ∷ [])
unfolding see read
function_lexes f named = line_lexes _ _ (name_is_word f named, (tt, tt)) refl

applied_lexes : (f : List ℕ) → IsName f
    → Lexes (applied_text f) (word f ∷ open_round ∷ word (codes "ctx") ∷ comma ∷ [])
unfolding see read
applied_lexes f named = line_lexes _ _ (name_is_word f named, (tt, tt)) refl

close_lexes : Lexes close_text (close_round ∷ [])
unfolding see read
close_lexes = line_lexes _ _ (tt, tt) refl

close_ends : EndWords close_text
close_ends = pieces_end 41 [] [] refl

-- ---- arguments and constants end in a word
argument_opens : (set : Option (List ℕ)) (a : List ℕ) → ArgumentNamed set a
    → Opens (argument_text set a) (argument_spelled set a)
unfolding see read
argument_opens None a named = pieces_open _ (word (codes "a") ∷ arrow ∷ []) a (tt, (name_is_word a named, tt)) refl
argument_opens (Some set) a named =
    pieces_open _ (word (codes "u") ∷ dot ∷ f_ set ∷ dot ∷ []) a
    (tt, (name_is_word set named.0, (tt, (name_is_word a named.1, tt)))) refl

source_opens : (from : Source) → SourceNamed from → Opens (source_text from) (source_spelled from)
unfolding see read
source_opens insn named = pieces_open _ [] (codes "insn") (tt, tt) refl
source_opens (argument set a) named = argument_opens set a named

constant_opens : (z : ℤ) → ConstantFits z → Opens (constant_text z) (constant_spelled z)
unfolding see read
constant_opens (pos n) fits = pieces_open _ [] (decimal n) (decimal_word_is n (omega arith), tt) refl
constant_opens (negsuc n) fits =
    pieces_open _ (minus ∷ []) (decimal (suc n)) (tt, (decimal_word_is (suc n) (omega arith), tt)) refl

-- ---- expressions
expr_opens : (w : Width) (e : Term) → HasNames e → Opens (expr_text w e) (expr_spelled w e)
expr_opens w (constant z) h = constant_opens z h
expr_opens w (segment sign from place length) h =
    closed (lexes_append (helper_lexes (extract_word sign) w (extract_is sign))
    (close (last_ends place length) (source_opens from h.0) (last_lexes place length h.1 h.2)))
expr_opens w (deposit into place length part) h =
    closed (lexes_append (helper_lexes (codes "deposit") w deposit_is)
    (close (end_by_first _ _ (middle_ends place length)) (expr_opens w into h.0)
    (lexes_append (middle_lexes place length h.1 h.2)
    (close close_ends (expr_opens w part h.3) close_lexes))))
expr_opens w (cast e) h = open_after (cast_lexes w) (expr_opens w e h)
expr_opens w (function f) h = closed (function_lexes f h)
expr_opens w (applied f e) h =
    closed (lexes_append (applied_lexes f h.0) (close close_ends (expr_opens w e h.1) close_lexes))

-- ---- a line
indent_lexes : (level : ℕ) → Lexes (indent_text level) []
unfolding see read
indent_lexes level = line_lexes _ _ (tt, tt) refl

equals_lexes : Lexes equals_text (equals ∷ [])
unfolding see read
equals_lexes = line_lexes _ _ (tt, tt) refl

line_end_lexes : Lexes line_end (semicolon ∷ [])
unfolding see read
line_end_lexes = line_lexes _ _ (tt, tt) refl

pub assignment_lexes : (w : Width) (level : ℕ) (set : Option (List ℕ)) (a : List ℕ) (e : Term)
    → HasNames e → ArgumentNamed set a → Lexes (assign_line w level set a e) (assign_spelled w set a e)
assignment_lexes w level set a e names named =
    lexes_append (indent_lexes level)
    (close (end_by_first _ _ (pieces_end 32 (codes "= ") [] refl)) (argument_opens set a named)
    (lexes_append equals_lexes
    (close (pieces_end 59 (codes "\n") [] refl) (expr_opens w e names) line_end_lexes)))

pub assignment_tokens : (w : Width) (level : ℕ) (set : Option (List ℕ)) (a : List ℕ) (e : Term)
    → HasNames e → ArgumentNamed set a → tokens_of (assign_line w level set a e) ≡ Some (assign_spelled w set a e)
assignment_tokens w level set a e names named = tokens_from _ _ (assignment_lexes w level set a e names named)
