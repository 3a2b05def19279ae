-- Fields with their expressions, their values and their lines.
use Rattle.std.specs.Prelude.{◌≡◌, ℕ, true, false, List, [], ◌∷◌, ℤ, pos, negsuc, Option, Some, None, codes}
use Rattle.dt_values.specs.Stored.{stored}
use Rattle.dt_values.specs.declared.ctype.CType.TheVariants.{Int, I64}
use Rattle.dt_values.specs.declared.width.Width.TheVariants.{W32}
use Rattle.dt_fields.specs.declared.field.FieldDef.{FieldDef}
use Rattle.dt_fields.specs.declared.segment.Segment.{Segment}
use Rattle.dt_fields.specs.declared.segment.Segment.TheVariants.{Bits}
use Rattle.c_exprs.specs.Exprs.{Term, insn, segment, deposit, cast}
use Rattle.dt_match.specs.FieldValues.{field_value}
use Rattle.c_eval.specs.Meaning.{value_at}
use Rattle.c_print.specs.ExprLayout.{assign_line}
use Rattle.c_fields.specs.Written.{field_term}

abbrev pub of_segments : List Segment → FieldDef
of_segments segments = record { segments = segments; function = None }

-- 31:s1 7:1 25:6 8:4
abbrev pub branch_immediate : FieldDef
branch_immediate = of_segments (Bits 31 1 true ∷ Bits 7 1 false ∷ Bits 25 6 false ∷ Bits 8 4 false ∷ [])

-- 31:s1 0:4
abbrev pub ends_of_word : FieldDef
ends_of_word = of_segments (Bits 31 1 true ∷ Bits 0 4 false ∷ [])

-- 0:32
abbrev pub whole_word : FieldDef
whole_word = of_segments (Bits 0 32 false ∷ [])

-- its expression in an extraction, at a width of 32
abbrev pub term_of : FieldDef → Term
term_of field = field_term 32 None field

abbrev pub nothing_held : List ℕ → ℤ
nothing_held name = pos 0

abbrev pub no_answer : List ℕ → Option ℤ → ℤ
no_answer function question = pos 0

-- its value on a word
abbrev pub value_on : ℕ → FieldDef → ℤ
value_on word field = field_value no_answer nothing_held word field

-- what its expression is on a word
abbrev pub run_on : ℕ → FieldDef → Option ℤ
run_on word field =
    value_at (record { bits = 32; word = word; held = λ set name. None; answer = no_answer }) (term_of field)

-- the line of an extraction that assigns it to `imm`
abbrev pub line_of : FieldDef → List ℕ
line_of field = assign_line W32 4 None (codes "imm") (term_of field)

pub record TermExamples : Type 0 where
  pub branch : term_of branch_immediate
      ≡ cast (deposit (deposit (deposit (segment false insn 8 4) 4 28 (segment false insn 25 6))
      10 22 (segment false insn 7 1)) 11 21 (segment true insn 31 1))
  pub ends : term_of ends_of_word ≡ cast (deposit (segment false insn 0 4) 4 28 (segment true insn 31 1))
  pub whole : term_of whole_word ≡ segment false insn 0 32

-- the word of all ones; beq a5, a4, 16 and beq a5, a4, -16; and the lowest and highest bits
pub record ValueExamples : Type 0 where
  pub branch_ones : value_on 0xffffffff branch_immediate ≡ negsuc 0
  pub branch_ones_run : run_on 0xffffffff branch_immediate ≡ Some (negsuc 0)
  pub branch_ahead : value_on 0x00e78863 branch_immediate ≡ pos 8
  pub branch_ahead_run : run_on 0x00e78863 branch_immediate ≡ Some (pos 8)
  pub branch_back : value_on 0xfee788e3 branch_immediate ≡ negsuc 7
  pub branch_back_run : run_on 0xfee788e3 branch_immediate ≡ Some (negsuc 7)
  pub ends : stored I64 (value_on 0x80000007 ends_of_word) ≡ negsuc 8
  pub ends_run : run_on 0x80000007 ends_of_word ≡ Some (negsuc 8)
  pub whole : stored Int (value_on 0xffffffff whole_word) ≡ negsuc 0
  pub whole_run : run_on 0xffffffff whole_word ≡ Some (pos 0xffffffff)

pub record LineExamples : Type 0 where
  pub branch : line_of branch_immediate ≡ codes
      "    a->imm = (int32_t)deposit32(deposit32(deposit32(extract32(insn, 8, 4), 4, 28, extract32(insn, 25, 6)), 10, 22, extract32(insn, 7, 1)), 11, 21, sextract32(insn, 31, 1));\n"
  pub whole : line_of whole_word ≡ codes "    a->imm = extract32(insn, 0, 32);\n"
