use Rattle.std.proofs.Common.{rules, refl}
use Rattle.std.specs.Prelude.{ℕ, List, nat_eq}
use Rattle.std.specs.Cmp.{unsigned_Decides}
use Rattle.std.specs.Cmp.Lexicographic.{pointwise, nat_list_eq_equiv}
use Rattle.std.specs.HashSet as bag
use Rattle.std.proofs.lemmas.Slice.Eq.{slice_eq-Decides}
use Rattle.std.proofs.lemmas.Map.Made.{hash_set_len-Decides}
use Rattle.c_subset.proofs.differ.all_differ.Goals as goal

pub returns : goal.returns
returns c =
    let h : bag.IsFromIterResult (pointwise nat_eq) c.args.names.now c.in_ok-set.set = search rules in
    let same = λ (v w : List ℕ). slice_eq-Decides unsigned_Decides v w (pointwise nat_eq v w) refl in
    rw c.len.ensures.len (hash_set_len-Decides same nat_list_eq_equiv c.args.names.now c.in_ok-set.set h)
