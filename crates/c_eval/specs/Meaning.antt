-- What an expression of the C subset is (docs/C_SUBSET.md, "The meaning of a run"; QEMU, include/qemu/bitops.h).
use Rattle.std.specs.Prelude.{ℕ, ◌+◌, Bool, ◌&&◌, nat_le, ℤ, pos, List, Option, Some, None, option_map, option_and_then}
use Rattle.std.specs.Prelude.{if◌then◌else◌}
use Rattle.dt_values.specs.BitFields.{bits_at, signed, deposited, residue}
use Rattle.dt_values.specs.declared.width.Width.{Width}
use Rattle.dt_values.specs.declared.width.Width.TheVariants.{W16, W32, W64}
use Rattle.c_exprs.specs.Exprs.{Source, insn, argument, Term, constant, segment, deposit, cast, function, applied}
use Rattle.dt_host.specs.Hosts.{Answers}

-- the helpers work on words of 64 bits at width 64, and of 32 bits at the other widths
abbrev pub helper_bits : Width → ℕ
helper_bits W16 = 32
helper_bits W32 = 32
helper_bits W64 = 64

-- where an expression is evaluated: the helpers' bits, the word, what arguments hold, where None is a lost value, and
-- what functions answer
pub record Place : Type 0 where
  pub bits : ℕ
  pub word : ℕ
  pub held : Option (List ℕ) → List ℕ → Option ℤ
  pub answer : Answers

abbrev pub input : Place → Source → Option ℤ
input at insn = Some (pos at.word)
input at (argument set name) = at.held set name

-- there is a bit, and all of them lie in a word of n bits
abbrev pub lies_in : ℕ → ℕ → ℕ → Bool
lies_in n start length = nat_le 1 length && nat_le (start + length) n

-- None where the bits leave the word
abbrev pub guarded : Bool → ℤ → Option ℤ
guarded inside z = if inside then Some z else None

abbrev pub extracted : Bool → ℕ → ℕ → ℕ → ℤ
extracted has_sign v start length =
    if has_sign then signed length (bits_at v start length) else pos (bits_at v start length)

-- an argument of a helper is reduced to a word of n bits first
abbrev pub extract_value : ℕ → Bool → ℕ → ℕ → ℤ → Option ℤ
extract_value n has_sign start length z =
    guarded (lies_in n start length) (extracted has_sign (residue n z) start length)

abbrev pub deposit_value : ℕ → ℕ → ℕ → ℤ → ℤ → Option ℤ
deposit_value n start length into part =
    guarded (lies_in n start length) (pos (deposited (residue n into) start length (residue n part)))

-- the value of an expression; None where it is stuck
abbrev pub value_at : Place → Term → Option ℤ
value_at at (constant z) = Some z
value_at at (segment has_sign from start length) =
    option_and_then (extract_value at.bits has_sign start length) (input at from)
value_at at (deposit into start length part) =
    option_and_then (λ a. option_and_then (deposit_value at.bits start length a) (value_at at part)) (value_at at into)
value_at at (cast e) = option_map (λ z. signed at.bits (residue at.bits z)) (value_at at e)
value_at at (function name) = Some (at.answer name None)
value_at at (applied name e) = option_map (λ z. at.answer name (Some (signed 32 (residue 32 z)))) (value_at at e)
