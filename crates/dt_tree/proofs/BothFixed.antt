-- What two patterns fix alike.
use Rattle.std.proofs.Common.{ℕ, ◌≡◌, ◌+◌, ◌-◌, ◌<◌, ◌^◌, sym, ◌∙◌, ap, arith, inl, inr}
use Rattle.std.specs.Prelude.{bit_and, bit_xor, min, ◌%◌}
use Rattle.std.specs.Int.{bit_at, bit_not, w64}
use Rattle.std.proofs.lemmas.Bool.{cases_lt}
use Rattle.std.proofs.lemmas.Nat.{xor_lt}
use Rattle.std.proofs.lemmas.Nat.Bits.{bit_at_and, bit_at_not, bit_at_xor, bit_at-lt, bit_at_above}
use Rattle.dt_model.specs.Patterns.{FlatPattern}
use Rattle.dt_tree.specs.Entries.{nothing}
use Rattle.dt_tree.specs.Commons.{IsJoin}

-- `m & n & !(a ^ c)`
join_mask : (m n a c b : ℕ) → m < 2 ^ 64 → a < 2 ^ 64 → c < 2 ^ 64
    → (bit_at (bit_and (bit_and m n) (bit_not w64 (bit_xor a c))) b ≡ 1
    → (bit_at m b ≡ 1) × (bit_at n b ≡ 1) × (bit_at a b ≡ bit_at c b))
    × (bit_at m b ≡ 1 → bit_at n b ≡ 1 → bit_at a b ≡ bit_at c b
    → bit_at (bit_and (bit_and m n) (bit_not w64 (bit_xor a c))) b ≡ 1)
join_mask m n a c b lm la lc =
    let e : bit_at (bit_and (bit_and m n) (bit_not w64 (bit_xor a c))) b
    ≡ min (bit_at (bit_and m n) b) (bit_at (bit_not w64 (bit_xor a c)) b) =
    bit_at_and (bit_and m n) (bit_not w64 (bit_xor a c)) b in
    let f : bit_at (bit_and m n) b ≡ min (bit_at m b) (bit_at n b) = bit_at_and m n b in
    let x : bit_at (bit_xor a c) b ≡ (bit_at a b + bit_at c b) % 2 = bit_at_xor a c b in
    let sm : bit_at m b < 2 = bit_at-lt m b in
    let sn : bit_at n b < 2 = bit_at-lt n b in
    let sa : bit_at a b < 2 = bit_at-lt a b in
    let sc : bit_at c b < 2 = bit_at-lt c b in
    elim (cases_lt b 64) [
      | inl l ↦ (let g : bit_at (bit_not w64 (bit_xor a c)) b ≡ 1 - bit_at (bit_xor a c) b =
          bit_at_not w64 (bit_xor a c) b (xor_lt 64 a c la lc) l in
          (λ o. (omega arith, omega arith, omega arith), λ p q r. omega arith))
      | inr h ↦ (let z : bit_at m b ≡ 0 = bit_at_above m 64 b lm h in
          (λ o. (omega arith, omega arith, omega arith), λ p q r. omega arith))
    ]

pub join_is : (one other : FlatPattern) (mask bits : ℕ) → one.fixed_mask < 2 ^ 64 → one.fixed_bits < 2 ^ 64
    → other.fixed_bits < 2 ^ 64
    → mask ≡ bit_and (bit_and one.fixed_mask other.fixed_mask) (bit_not w64 (bit_xor one.fixed_bits other.fixed_bits))
    → bits ≡ bit_and one.fixed_bits mask
    → IsJoin one other (record nothing { fixed_mask = mask; fixed_bits = bits })
join_is one other mask bits lm la lc e f = record {
  says = λ b v p q.
      let t : bit_at mask b ≡ 1 = rw e ((join_mask one.fixed_mask other.fixed_mask one.fixed_bits other.fixed_bits b lm
      la lc).1 p.tested q.tested (p.value ∙ sym q.value)) in
      record { tested = t; value = kept b t ∙ p.value };
  first = λ b v p.
      let t = (join_mask one.fixed_mask other.fixed_mask one.fixed_bits other.fixed_bits b lm la lc).0
      (rw e at p.tested) in
      record { tested = t.0; value = sym (kept b p.tested) ∙ p.value };
  second = λ b v p.
      let t = (join_mask one.fixed_mask other.fixed_mask one.fixed_bits other.fixed_bits b lm la lc).0
      (rw e at p.tested) in
      record { tested = t.1; value = sym t.2 ∙ sym (kept b p.tested) ∙ p.value };
}
  where
    kept : (b : ℕ) → bit_at mask b ≡ 1 → bit_at bits b ≡ bit_at one.fixed_bits b
    kept b t =
        let g : bit_at (bit_and one.fixed_bits mask) b ≡ min (bit_at one.fixed_bits b) (bit_at mask b) =
        bit_at_and one.fixed_bits mask b in
        let h : bit_at bits b ≡ bit_at (bit_and one.fixed_bits mask) b = ap (λ (x : ℕ). bit_at x b) f in
        let s : bit_at one.fixed_bits b < 2 = bit_at-lt one.fixed_bits b in
        omega arith
