-- Expressions whose values are written out.
use Rattle.std.specs.Prelude.{ℕ, true, false, List, ◌∷◌, ℤ, pos, negsuc, Option, Some, None, if◌then◌else◌}
use Rattle.dt_values.specs.Types.{is_text}
use Rattle.c_exprs.specs.Exprs.{insn, argument, Term, segment, deposit}
use Rattle.dt_host.specs.Examples.{answer_to, growing_sizes, imm, shift_name}
use Rattle.dt_host.specs.Hosts.{Answer, answer_at}
use Rattle.c_eval.specs.Meaning.{value_at}

-- of all arguments, `imm` alone holds a number: -9
abbrev pub held_here : Option (List ℕ) → List ℕ → Option ℤ
held_here set name = if is_text name imm then Some (negsuc 8) else None

-- ex_shift_1 to -1: 5; ex_size without a number: 2 before a call, and 3 after one
abbrev pub few_answers : List Answer
few_answers = answer_to 0 shift_name (Some (negsuc 0)) (pos 5) ∷ growing_sizes

-- with helpers of so many bits, on a word
abbrev pub value_on : ℕ → ℕ → Term → Option ℤ
value_on bits word e =
    value_at (record { bits = bits; word = word; held = held_here; answer = answer_at few_answers 0 }) e

-- extractN(insn, PLACE, LENGTH) and sextractN(insn, PLACE, LENGTH)
abbrev pub extract_bits : ℕ → ℕ → Term
extract_bits place length = segment false insn place length

abbrev pub sextract_bits : ℕ → ℕ → Term
sextract_bits place length = segment true insn place length

-- extractN(a->NAME, 0, LENGTH) and sextractN(a->NAME, 0, LENGTH)
abbrev pub extract_low : List ℕ → ℕ → Term
extract_low name length = segment false (argument None name) 0 length

abbrev pub sextract_low : List ℕ → ℕ → Term
sextract_low name length = segment true (argument None name) 0 length

-- of these there is no bit
abbrev pub no_bits : Term
no_bits = extract_bits 0 0

-- the text's expression for 31:s1 0:4, without its cast
abbrev pub sign_above_four : Term
sign_above_four = deposit (extract_bits 0 4) 4 28 (sextract_bits 31 1)

-- the lowest four bits, with themselves in the place of some
abbrev pub deposit_at : ℕ → ℕ → Term
deposit_at place length = deposit (extract_bits 0 4) place length (extract_bits 0 4)
