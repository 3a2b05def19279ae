-- Texts of programs, byte by byte.
use Rattle.std.specs.Prelude.{◌≡◌, ℕ, List, [], ◌∷◌, pos, codes, Some, None, true, false}
use Rattle.dt_values.specs.declared.width.Width.TheVariants.{W16, W32, W64}
use Rattle.c_exprs.specs.Exprs.{insn, argument, constant, segment, deposit, cast, function, applied}
use Rattle.c_subset.specs.Examples.{nop_program, nop_text}
use Rattle.c_subset.specs.Programs.{load_block, load_switch, no_switch, or_load_case, no_load_case}
use Rattle.c_print.specs.ExprLayout.{assign_line}
use Rattle.c_print.specs.Marked.{Block, no_part, and_part, and_mark, if_mask, extract_to, assign_to, call_to, switch_by}
use Rattle.c_print.specs.Marked.{or_branch, no_branch}
use Rattle.c_print.specs.Printed.{text_of, block_text, load_function_text}

-- one statement alone
abbrev alone : (Block → Block) → Block
alone part = part no_part

-- the body of the program `nop`, with the mark of the pattern on line 1 of file 1
abbrev pub nop_body : Block
nop_body = alone (and_part (if_mask 0xffffffff 0 (and_mark 1 1
    (and_part (extract_to (codes "decode_Fmt_0") (codes "decode0"))
    (alone (and_part (call_to (codes "nop") (codes "decode0"))))))))

-- a switch with two cases, of which one has an assignment and a call
abbrev pub switch_body : Block
switch_body = alone (and_part (switch_by 0x80
    (or_branch 0 (and_part (assign_to (codes "s") (codes "a") (segment false (argument (Some (codes "s")) (codes "b")) 0 4))
    (alone (and_part (call_to (codes "n") (codes "s")))))
    (or_branch 0x80 no_part no_branch))))

-- whole bodies of a program and of a load function
pub record TextExamples : Type 0 where
  pub nop : text_of nop_program nop_body ≡ nop_text
  pub switch : block_text W16 (codes "f") (codes "t") 4 switch_body ≡ codes
      "    switch (insn & 0x0080) {\n    case 0x0000:\n        u.f_s.a = extract32(u.f_s.b, 0, 4);\n        if (t_n(ctx, &u.f_s)) return true;\n        break;\n    case 0x0080:\n        break;\n    }\n"
  pub load : load_function_text W32 (codes "f") true (Some (load_block (Some (0, 2)) (load_switch 0x30000
      (or_load_case 0x30000 (load_block (Some (2, 4)) no_switch) no_load_case)))) ≡ codes
      "\nstatic uint32_t f_load(DisasContext *ctx)\n{\n    uint32_t insn = 0;\n\n    insn = f_load_bytes(ctx, insn, 0, 2);\n    switch (insn & 0x00030000) {\n    case 0x00030000:\n        insn = f_load_bytes(ctx, insn, 2, 4);\n        return insn;\n    }\n    return insn;\n}\n"
  pub no_load : load_function_text W64 (codes "f") false None ≡ []

-- lines of assignments
pub record AssignmentExamples : Type 0 where
  pub constant : assign_line W32 4 None (codes "a") (constant (pos 5)) ≡ codes "    a->a = 5;\n"
  pub asked : assign_line W64 8 (Some (codes "s")) (codes "a") (applied (codes "f") (segment true insn 0 12)) ≡ codes
      "        u.f_s.a = f(ctx, sextract64(insn, 0, 12));\n"
  pub cast : assign_line W32 4 None (codes "a")
      (cast (deposit (function (codes "g")) 4 28 (segment false insn 31 1))) ≡ codes
      "    a->a = (int32_t)deposit32(g(ctx), 4, 28, extract32(insn, 31, 1));\n"
