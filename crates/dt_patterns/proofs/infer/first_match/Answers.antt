use Rattle.std.proofs.Common.{length, sym, ◌∙◌, arith, false, []}
use Rattle.std.proofs.lemmas.List.Sums.{position_or_len_is}
use Rattle.dt_values.specs.declared.set.SetDef.{SetDef}
use Rattle.dt_patterns.specs.Inference.{has_exactly}
use Rattle.dt_patterns.proofs.infer.first_match.Goals as goal

pub returns-then-is_match : goal.returns-then-is_match
returns-then-is_match c =
    let d : SetDef = record { name = []; members = []; outside = false } in
    sym (position_or_len_is (has_exactly c.args.values.now) c.args.sets.now c.loop-place.place d (omega arith)
    (c.loop-place.invariant d) (λ h. sym (c.is_match.ensures d) ∙ c.if-is_match.true))

pub returns : goal.returns
returns c =
    let d : SetDef = record { name = []; members = []; outside = false } in
    c.count.ensures ∙ sym (position_or_len_is (has_exactly c.args.values.now) c.args.sets.now (length c.args.sets.now) d
    (omega arith) (λ k h. c.loop-place.invariant d k (omega arith)) (λ h. absurd (omega arith)))
