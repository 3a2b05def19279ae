-- The bytes of the lines of a C text (docs/C_SUBSET.md, "The text").
use Rattle.std.specs.Prelude.{ℕ, Bool, true, false, List, [], ◌∷◌, codes, decimal, Option}
use Rattle.dt_values.specs.declared.ctype.Member.{Member}
use Rattle.dt_values.specs.declared.width.Width.{Width}
use Rattle.dt_values.specs.Types.{type_name}
use Rattle.dt_text.specs.Hexadecimal.{hex}
use Rattle.dt_text.specs.Pieces.{text, name, spaces, pieces_text}
use Rattle.c_exprs.specs.Exprs.{Assignment}
use Rattle.c_subset.specs.Programs.{Name, Pattern, word_type}
use Rattle.c_print.specs.ExprLayout.{assign_line}

abbrev pub static_text : Bool → List ℕ
static_text true = pieces_text (text (codes "static ") ∷ [])
static_text false = []

abbrev pub head_line : List ℕ
head_line = pieces_text (text (codes "/* Made from pattern files. */\n") ∷ [])

abbrev pub set_head_line : List ℕ
set_head_line = pieces_text (text (codes "\ntypedef struct {\n") ∷ [])

abbrev pub typed_line : Name → Name → List ℕ
typed_line type n = pieces_text (text (codes "    ") ∷ name type ∷ text (codes " ") ∷ name n ∷ text (codes ";\n") ∷ [])

abbrev pub member_line : Member → List ℕ
member_line m = typed_line (type_name m.ctype) m.name

abbrev pub set_end_line : Name → List ℕ
set_end_line s = pieces_text (text (codes "} arg_") ∷ name s ∷ text (codes ";\n") ∷ [])

abbrev pub typedef_line : Pattern → List ℕ
typedef_line p =
    pieces_text (text (codes "\ntypedef arg_") ∷ name p.set ∷ text (codes " arg_") ∷ name p.name
    ∷ text (codes ";\n") ∷ [])

abbrev pub prototype_line : Name → Name → List ℕ
prototype_line prefix n =
    pieces_text (text (codes "bool ") ∷ name prefix ∷ name (codes "_") ∷ name n
    ∷ text (codes "(DisasContext *ctx, arg_") ∷ name n ∷ text (codes " *a);\n") ∷ [])

abbrev pub close_line : ℕ → List ℕ
close_line level = pieces_text (spaces level ∷ text (codes "}\n") ∷ [])

abbrev pub extraction_head_line : Width → Name → Name → Name → List ℕ
extraction_head_line w decoder format set =
    pieces_text (text (codes "\nstatic void ") ∷ name decoder ∷ name (codes "_extract_") ∷ name format
    ∷ text (codes "(DisasContext *ctx, arg_") ∷ name set ∷ text (codes " *a, ") ∷ name (word_type w)
    ∷ text (codes " insn)\n{\n") ∷ [])

abbrev pub assignment_line : Width → ℕ → Option Name → Assignment → List ℕ
assignment_line w level set a = assign_line w level set a.argument a.value

abbrev pub empty_line : List ℕ
empty_line = pieces_text (text (codes "\n") ∷ [])

abbrev pub head_of_decoder : Width → Name → List ℕ
head_of_decoder w decoder =
    pieces_text (text (codes "bool ") ∷ name decoder ∷ text (codes "(DisasContext *ctx, ") ∷ name (word_type w)
    ∷ text (codes " insn)\n{\n") ∷ [])

abbrev pub union_head_line : List ℕ
union_head_line = pieces_text (text (codes "    union {\n") ∷ [])

abbrev pub union_set_line : Name → List ℕ
union_set_line s =
    pieces_text (text (codes "        arg_") ∷ name s ∷ text (codes " f_") ∷ name s ∷ text (codes ";\n") ∷ [])

abbrev pub union_end_lines : List ℕ
union_end_lines = pieces_text (text (codes "    } u;\n\n") ∷ [])

-- the file's number and the line
abbrev pub mark_line : ℕ → ℕ → ℕ → List ℕ
mark_line level file line =
    pieces_text (spaces level ∷ text (codes "/* ") ∷ name (decimal file) ∷ text (codes ":")
    ∷ name (decimal line) ∷ text (codes " */\n") ∷ [])

abbrev pub extract_line : ℕ → Name → Name → Name → List ℕ
extract_line level decoder format set =
    pieces_text (spaces level ∷ name decoder ∷ name (codes "_extract_") ∷ name format
    ∷ text (codes "(ctx, &u.f_") ∷ name set ∷ text (codes ", insn);\n") ∷ [])

abbrev pub call_line : ℕ → Name → Name → Name → List ℕ
call_line level prefix n set =
    pieces_text (spaces level ∷ text (codes "if (") ∷ name prefix ∷ name (codes "_") ∷ name n
    ∷ text (codes "(ctx, &u.f_") ∷ name set ∷ text (codes ")) return true;\n") ∷ [])

-- a word is shown by so many digits
abbrev pub if_line : ℕ → ℕ → ℕ → ℕ → List ℕ
if_line digits level mask value =
    pieces_text (spaces level ∷ text (codes "if ((insn & 0x") ∷ name (hex digits mask)
    ∷ text (codes ") == 0x") ∷ name (hex digits value) ∷ text (codes ") {\n") ∷ [])

abbrev pub switch_line : ℕ → ℕ → ℕ → List ℕ
switch_line digits level mask =
    pieces_text (spaces level ∷ text (codes "switch (insn & 0x") ∷ name (hex digits mask) ∷ text (codes ") {\n") ∷ [])

abbrev pub case_line : ℕ → ℕ → ℕ → List ℕ
case_line digits level value =
    pieces_text (spaces level ∷ text (codes "case 0x") ∷ name (hex digits value) ∷ text (codes ":\n") ∷ [])

abbrev pub break_line : ℕ → List ℕ
break_line level = pieces_text (spaces level ∷ text (codes "break;\n") ∷ [])

abbrev pub end_lines : List ℕ
end_lines = pieces_text (text (codes "    return false;\n}\n") ∷ [])

-- of the load function
abbrev pub head_of_load : Width → Name → List ℕ
head_of_load w decoder =
    pieces_text (name (word_type w) ∷ text (codes " ") ∷ name decoder ∷ name (codes "_load")
    ∷ text (codes "(DisasContext *ctx)\n{\n    ") ∷ name (word_type w) ∷ text (codes " insn = 0;\n\n") ∷ [])

abbrev pub load_line : ℕ → Name → ℕ → ℕ → List ℕ
load_line level decoder from to =
    pieces_text (spaces level ∷ text (codes "insn = ") ∷ name decoder ∷ name (codes "_load_bytes")
    ∷ text (codes "(ctx, insn, ") ∷ name (decimal from) ∷ text (codes ", ") ∷ name (decimal to)
    ∷ text (codes ");\n") ∷ [])

abbrev pub return_line : ℕ → List ℕ
return_line level = pieces_text (spaces level ∷ text (codes "return insn;\n") ∷ [])
