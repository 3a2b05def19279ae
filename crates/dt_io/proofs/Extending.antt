-- Known bytes that are extended piece by piece.
use Rattle.std.proofs.Common.{◌≡◌, ℕ, ◌+◌, List, ◌++◌, take, drop, Option, Some, None, refl, ap, sym, ◌∙◌, append_assoc}
use Rattle.std.proofs.Math.Seq.{take-add}
use Rattle.dt_io.specs.Bytes.{extend}

pub extend-extend : (known : Option (List ℕ)) (xs ys : List ℕ) → extend (extend known xs) ys ≡ extend known (xs ++ ys)
extend-extend None xs ys = refl
extend-extend (Some known) xs ys = ap Some (append_assoc known xs ys)

-- one more piece
pub extend_more : (known : Option (List ℕ)) (bytes : List ℕ) (i n : ℕ)
    → extend (extend known (take i bytes)) (take n (drop i bytes)) ≡ extend known (take (i + n) bytes)
extend_more known bytes i n =
    extend-extend known (take i bytes) (take n (drop i bytes)) ∙ ap (extend known) (sym (take-add i n bytes))
