-- The masks of a line, joined with those of a format.
use Rattle.std.proofs.Common.{◌≡◌, ℕ, ap, ◌∙◌, sym, arith, bit_and, bit_or}
use Rattle.std.specs.Prelude.{min, max}
use Rattle.std.proofs.lemmas.Nat.{or_lt}
use Rattle.std.specs.Int.{bit_at}
use Rattle.std.proofs.lemmas.Nat.Bits.{bit_at_and, bit_at_or, same_from_bits}
use Rattle.dt_model.specs.Sound.{AreMasks}

bit_under : (b m : ℕ) → bit_and b m ≡ b → (i : ℕ) → min (bit_at b i) (bit_at m i) ≡ bit_at b i
bit_under b m h i = sym (bit_at_and b m i) ∙ ap (λ n. bit_at n i) h

either_under : (a b m n : ℕ) → min a m ≡ a → min b n ≡ b → min (max a b) (max m n) ≡ max a b
either_under a b m n h k = omega arith

joined_under : (a b m n : ℕ) → bit_and a m ≡ a → bit_and b n ≡ b → bit_and (bit_or a b) (bit_or m n) ≡ bit_or a b
joined_under a b m n h k =
    same_from_bits (bit_and (bit_or a b) (bit_or m n)) (bit_or a b) (λ i.
    bit_at_and (bit_or a b) (bit_or m n) i
    ∙ ap (λ x. min x (bit_at (bit_or m n) i)) (bit_at_or a b i)
    ∙ ap (min (max (bit_at a i) (bit_at b i))) (bit_at_or m n i)
    ∙ either_under (bit_at a i) (bit_at b i) (bit_at m i) (bit_at n i) (bit_under a m h i) (bit_under b n k i)
    ∙ sym (bit_at_or a b i))

pub joined_masks : (width a m i b n j : ℕ) → AreMasks width a m i → AreMasks width b n j
    → bit_and (bit_or m n) (bit_or i j) ≡ 0
    → AreMasks width (bit_or a b) (bit_or m n) (bit_or i j)
joined_masks width a m i b n j h k apart = record {
  fixed_below = or_lt width m n h.fixed_below k.fixed_below;
  ignored_below = or_lt width i j h.ignored_below k.ignored_below;
  bits_in_mask = joined_under a b m n h.bits_in_mask k.bits_in_mask;
  apart = apart;
}
