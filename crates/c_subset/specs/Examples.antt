-- Texts with their programs, and texts with their tokens (the C subset, docs/C_SUBSET.md).
use Rattle.std.specs.Prelude.{◌≡◌, ℕ, true, false, List, [], ◌∷◌, ◌++◌, codes, negsuc, Some, None}
use Rattle.dt_values.specs.declared.width.Width.TheVariants.{W32, W64}
use Rattle.dt_values.specs.declared.ctype.CType.TheVariants.{Int, U64}
use Rattle.c_exprs.specs.Exprs.{Source, insn, argument, Term, constant, segment, deposit, cast, function, applied}
use Rattle.c_exprs.specs.Exprs.{Assignment}
use Rattle.c_subset.specs.Programs.{Name, Stmts, on_mask, extract, assign, call, done, then, Program}
use Rattle.c_subset.specs.Spells.{Spells}

-- a mask and a value, a format, a pattern and a set: under the test stand an extraction and a call
abbrev pub one_test_body : ℕ → ℕ → Name → Name → Name → Stmts
one_test_body m v x n s = then (on_mask m v (then (extract x s) (then (call n s) done))) done

-- one pattern, `nop`, with all bits 0
abbrev pub nop_program : Program
nop_program = record {
  width = W32;
  sets = record { name = codes "decode0"; members = []; outside = false } ∷ [];
  prefix = Some (record { name = codes "trans"; is_static = true });
  patterns = record { name = codes "nop"; set = codes "decode0" } ∷ [];
  extracts = record { format = codes "decode_Fmt_0"; set = codes "decode0"; assigns = [] } ∷ [];
  decoder = codes "decode";
  decoder_static = true;
  union_sets = codes "decode0" ∷ [];
  body = one_test_body 0xffffffff 0 (codes "decode_Fmt_0") (codes "nop") (codes "decode0");
  load = None;
}

abbrev pub nop_text : List ℕ
nop_text = codes "/* Made from pattern files. */\n\ntypedef struct {\n} arg_decode0;\n\ntypedef arg_decode0 arg_nop;\nstatic bool trans_nop(DisasContext *ctx, arg_nop *a);\n\nstatic void decode_extract_decode_Fmt_0(DisasContext *ctx, arg_decode0 *a, uint32_t insn)\n{\n}\n\nstatic bool decode(DisasContext *ctx, uint32_t insn)\n{\n    union {\n        arg_decode0 f_decode0;\n    } u;\n\n    if ((insn & 0xffffffff) == 0x00000000) {\n        /* 1:1 */\n        decode_extract_decode_Fmt_0(ctx, &u.f_decode0, insn);\n        if (trans_nop(ctx, &u.f_decode0)) return true;\n    }\n    return false;\n}\n"

-- no pattern at all
abbrev pub empty_program : Program
empty_program = record {
  width = W32;
  sets = [];
  prefix = None;
  patterns = [];
  extracts = [];
  decoder = codes "decode";
  decoder_static = true;
  union_sets = [];
  body = done;
  load = None;
}

abbrev pub empty_text : List ℕ
empty_text = codes "/* Made from pattern files. */\n\nstatic bool decode(DisasContext *ctx, uint32_t insn)\n{\n    return false;\n}\n"

-- a set of two arguments, of different types, and no pattern
abbrev pub arguments_program : Program
arguments_program = record {
  width = W32;
  sets = record {
    name = codes "r";
    members = record { ctype = Int; name = codes "rd" } ∷ record { ctype = U64; name = codes "imm" } ∷ [];
    outside = false;
  } ∷ [];
  prefix = None;
  patterns = [];
  extracts = [];
  decoder = codes "decode";
  decoder_static = true;
  union_sets = [];
  body = done;
  load = None;
}

abbrev pub arguments_text : List ℕ
arguments_text = codes "/* Made from pattern files. */\n\ntypedef struct {\n    int rd;\n    uint64_t imm;\n} arg_r;\n\nstatic bool decode(DisasContext *ctx, uint32_t insn)\n{\n    return false;\n}\n"

-- an argument of four segments, the first of them signed
abbrev pub branch_offset : Assignment
branch_offset = record {
  argument = codes "imm";
  value = cast
      (deposit
      (deposit (deposit (segment false insn 8 4) 4 28 (segment false insn 25 6)) 10 22 (segment false insn 7 1))
      11
      21
      (segment true insn 31 1));
}

abbrev pub branch_program : Program
branch_program = record {
  width = W32;
  sets = record {
    name = codes "b";
    members = record { ctype = Int; name = codes "imm" } ∷ [];
    outside = false;
  } ∷ [];
  prefix = Some (record { name = codes "trans"; is_static = true });
  patterns = record { name = codes "beq"; set = codes "b" } ∷ [];
  extracts = record { format = codes "b"; set = codes "b"; assigns = branch_offset ∷ [] } ∷ [];
  decoder = codes "decode";
  decoder_static = true;
  union_sets = codes "b" ∷ [];
  body = one_test_body 0x707f 0x63 (codes "b") (codes "beq") (codes "b");
  load = None;
}

abbrev pub branch_text : List ℕ
branch_text = codes "/* Made from pattern files. */\n\ntypedef struct {\n    int imm;\n} arg_b;\n\ntypedef arg_b arg_beq;\nstatic bool trans_beq(DisasContext *ctx, arg_beq *a);\n\nstatic void decode_extract_b(DisasContext *ctx, arg_b *a, uint32_t insn)\n{\n    a->imm = (int32_t)deposit32(deposit32(deposit32(extract32(insn, 8, 4), 4, 28, extract32(insn, 25, 6)), 10, 22, extract32(insn, 7, 1)), 11, 21, sextract32(insn, 31, 1));\n}\n\nstatic bool decode(DisasContext *ctx, uint32_t insn)\n{\n    union {\n        arg_b f_b;\n    } u;\n\n    if ((insn & 0x0000707f) == 0x00000063) {\n        /* 1:5 */\n        decode_extract_b(ctx, &u.f_b, insn);\n        if (trans_beq(ctx, &u.f_b)) return true;\n    }\n    return false;\n}\n"

abbrev pub low_bits : Term
low_bits = segment false (argument (Some (codes "s")) (codes "a")) 0 4

-- assignments in the decoder, before an extraction that refers to one of them
abbrev pub assigned_body : Stmts
assigned_body =
    then (assign (codes "s") (codes "a") (constant (negsuc 4)))
    (then (assign (codes "s") (codes "b") (function (codes "f")))
    (then (assign (codes "s") (codes "c") (applied (codes "f") low_bits))
    (then (extract (codes "x") (codes "s"))
    (then (call (codes "p") (codes "s"))
    done))))

abbrev pub assigned_program : Program
assigned_program = record {
  width = W64;
  sets = record {
    name = codes "s";
    members =
        record { ctype = Int; name = codes "a" }
        ∷ record { ctype = Int; name = codes "b" }
        ∷ record { ctype = Int; name = codes "c" }
        ∷ record { ctype = Int; name = codes "d" }
        ∷ [];
    outside = false;
  } ∷ [];
  prefix = Some (record { name = codes "t"; is_static = true });
  patterns = record { name = codes "p"; set = codes "s" } ∷ [];
  extracts = record {
    format = codes "x";
    set = codes "s";
    assigns = record { argument = codes "d"; value = segment true (argument None (codes "a")) 0 8 } ∷ [];
  } ∷ [];
  decoder = codes "g";
  decoder_static = true;
  union_sets = codes "s" ∷ [];
  body = assigned_body;
  load = None;
}

abbrev pub assigned_text : List ℕ
assigned_text = codes "/* Made from pattern files. */\n\ntypedef struct {\n    int a;\n    int b;\n    int c;\n    int d;\n} arg_s;\n\ntypedef arg_s arg_p;\nstatic bool t_p(DisasContext *ctx, arg_p *a);\n\nstatic void g_extract_x(DisasContext *ctx, arg_s *a, uint64_t insn)\n{\n    a->d = sextract64(a->a, 0, 8);\n}\n\nstatic bool g(DisasContext *ctx, uint64_t insn)\n{\n    union {\n        arg_s f_s;\n    } u;\n\n    u.f_s.a = -5;\n    u.f_s.b = f(ctx);\n    u.f_s.c = f(ctx, extract64(u.f_s.a, 0, 4));\n    g_extract_x(ctx, &u.f_s, insn);\n    if (t_p(ctx, &u.f_s)) return true;\n    return false;\n}\n"

-- an assignment in an extraction and one in the decoder, each of the low bits of an argument that is named so
abbrev pub low_bits_of : Source → Term
low_bits_of from = segment false from 0 4

abbrev pub placed_program : Source → Source → Program
placed_program extracted decoded = record {
  width = W64;
  sets = record {
    name = codes "s";
    members = record { ctype = Int; name = codes "a" } ∷ record { ctype = Int; name = codes "b" } ∷ [];
    outside = false;
  } ∷ [];
  prefix = Some (record { name = codes "t"; is_static = true });
  patterns = record { name = codes "p"; set = codes "s" } ∷ [];
  extracts = record {
    format = codes "x";
    set = codes "s";
    assigns = record { argument = codes "b"; value = low_bits_of extracted } ∷ [];
  } ∷ [];
  decoder = codes "g";
  decoder_static = true;
  union_sets = codes "s" ∷ [];
  body =
      then (assign (codes "s") (codes "b") (low_bits_of decoded))
      (then (extract (codes "x") (codes "s"))
      (then (call (codes "p") (codes "s"))
      done));
  load = None;
}

abbrev pub placed_text : List ℕ → List ℕ → List ℕ
placed_text extracted decoded =
    codes "typedef struct {\n    int a;\n    int b;\n} arg_s;\n\ntypedef arg_s arg_p;\nstatic bool t_p(DisasContext *ctx, arg_p *a);\n\nstatic void g_extract_x(DisasContext *ctx, arg_s *a, uint64_t insn)\n{\n    a->b = extract64("
    ++ extracted
    ++ codes ", 0, 4);\n}\n\nstatic bool g(DisasContext *ctx, uint64_t insn)\n{\n    union {\n        arg_s f_s;\n    } u;\n\n    u.f_s.b = extract64("
    ++ decoded
    ++ codes ", 0, 4);\n    g_extract_x(ctx, &u.f_s, insn);\n    if (t_p(ctx, &u.f_s)) return true;\n    return false;\n}\n"

abbrev pub in_extraction : Source
in_extraction = argument None (codes "a")

abbrev pub in_decoder : Source
in_decoder = argument (Some (codes "s")) (codes "a")

-- an extraction names no set, and the decoder names one
abbrev pub Placed : Type 0
Placed = Spells (placed_text (codes "a->a") (codes "u.f_s.a")) (placed_program in_extraction in_decoder)

abbrev pub Nop : Type 0
Nop = Spells nop_text nop_program

abbrev pub Empty : Type 0
Empty = Spells empty_text empty_program

abbrev pub Arguments : Type 0
Arguments = Spells arguments_text arguments_program

abbrev pub Branch : Type 0
Branch = Spells branch_text branch_program

abbrev pub Assigned : Type 0
Assigned = Spells assigned_text assigned_program
