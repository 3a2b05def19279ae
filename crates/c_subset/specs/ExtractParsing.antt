-- The reader of extractions and of the decoder's head (the C subset, docs/C_SUBSET.md).
use Rattle.std.specs.Prelude.{ℕ, nat_eq, ◌==◌, cond, Bool, List, [], ◌∷◌, ◌++◌, Option, Some, None, option_map}
use Rattle.std.specs.Prelude.{option_and_then, codes}
use Rattle.std.specs.Cmp.Lexicographic.{pointwise}
use Rattle.dt_values.specs.Widths.{width_bits}
use Rattle.dt_values.specs.declared.width.Width.{Width}
use Rattle.dt_values.specs.declared.width.Width.TheVariants.{W16, W32, W64}
use Rattle.c_tokens.specs.Tokens.{Token, word}
use Rattle.c_tokens.specs.Marks.{close_round, open_brace, close_brace, comma, asterisk}
use Rattle.c_tokens.specs.Parsing.{Parse, begins, behind, closed, then_each, both, made, many, tried, first_word, word_as}
use Rattle.c_tokens.specs.Front.{name_at}
use Rattle.c_tokens.specs.WordParsing.{name_behind}
use Rattle.c_exprs.specs.Exprs.{Assignment}
use Rattle.c_exprs.specs.ExprParsing.{assignment_at}
use Rattle.c_subset.specs.Programs.{Name, Extraction, word_type}
use Rattle.c_subset.specs.SetParsing.{arg_at, is_inside}
use Rattle.c_subset.specs.PatternParsing.{static_at, bool_word, context_run}

-- the width whose type a word names
abbrev pub width_of : List ℕ → Option Width
width_of w =
    cond (pointwise nat_eq w (word_type W16)) (Some W16)
    (cond (pointwise nat_eq w (word_type W32)) (Some W32)
    (cond (pointwise nat_eq w (word_type W64)) (Some W64) None))

abbrev pub insn_run : List Token
insn_run = word (codes "insn") ∷ close_round ∷ open_brace ∷ []

-- uintW_t insn) {
unfoldable pub width_at : Parse Width
width_at = closed (word_as width_of) insn_run

-- A function that extracts, before the decoder's name is known: by its whole name, and with its own width.
pub record Function : Type 0 where
  pub name : List ℕ
  pub set : Name
  pub width : Width
  pub assigns : List Assignment

abbrev pub void_run : List Token
void_run = word (codes "static") ∷ word (codes "void") ∷ []

abbrev pub a_run : List Token
a_run = asterisk ∷ word (codes "a") ∷ comma ∷ []

abbrev pub FunctionHead : Type 0
FunctionHead = List ℕ × (Name × Width)

-- static void FUNCTION(DisasContext *ctx, arg_S *a, uintW_t insn) {
unfoldable pub function_head_at : Parse FunctionHead
function_head_at = behind void_run (both first_word (behind context_run (both arg_at (behind a_run width_at))))

-- the assignments, and the closing brace
unfoldable pub assigns_at : Width → Parse (List Assignment)
assigns_at w = closed (many is_inside (assignment_at w)) (close_brace ∷ [])

abbrev pub function_of : FunctionHead × List Assignment → Function
function_of x = record { name = x.0.0; set = x.0.1.0; width = x.0.1.1; assigns = x.1 }

unfoldable pub function_at : Parse Function
function_at = made function_of (then_each function_head_at (λ x. assigns_at x.1.1))

unfoldable pub starts_function : List Token → Bool
starts_function ts = begins void_run ts

-- the decoder's head
pub record Head : Type 0 where
  pub is_static : Bool
  pub decoder : Name
  pub width : Width

abbrev pub head_of : Bool × (Name × Width) → Head
head_of x = record { is_static = x.0; decoder = x.1.0; width = x.1.1 }

-- [static ]bool F(DisasContext *ctx, uintW_t insn) {
unfoldable pub head_at : Parse Head
head_at = made head_of (both static_at (behind bool_word (both name_at (behind context_run width_at))))

abbrev pub same_width : Width → Width → Bool
same_width v w = width_bits v == width_bits w

abbrev pub with_format : Function → Name → Extraction
with_format f format = record { format = format; set = f.set; assigns = f.assigns }

-- the extraction that a function is, under the decoder's name and width
abbrev pub extraction_under : Head → Function → Option Extraction
extraction_under h f =
    cond (same_width f.width h.width)
    (option_map (with_format f) (name_behind (h.decoder ++ codes "_extract_") f.name))
    None

abbrev pub extractions_under : Head → List Function → Option (List Extraction)
extractions_under h [] = Some []
extractions_under h (f ∷ fs) =
    option_and_then (λ e. option_map (λ es. e ∷ es) (extractions_under h fs)) (extraction_under h f)

abbrev pub under_head : List Function × Head → Option (List Extraction × Head)
under_head x = option_map (λ es. (es, x.1)) (extractions_under x.1 x.0)

-- The extractions and the decoder's head: the functions' names are cut once the decoder's is known.
unfoldable pub extracts_at : Parse (List Extraction × Head)
extracts_at = tried under_head (both (many starts_function function_at) head_at)
