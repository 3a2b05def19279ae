use Rattle.std.proofs.Common.{ℕ, take, ap, ◌∙◌}
use Rattle.std.proofs.lemmas.List.{take_min}
use Rattle.dt_tool.proofs.run_text.values_of.Goals as goal

pub returns : goal.returns
returns c =
    ap (λ (n : ℕ). take n c.as_slice-items.result.now) c.min.ensures
    ∙ take_min c.from.result c.as_slice-items.result.now
    ∙ ap (λ (n : ℕ). take n c.as_slice-items.result.now) c.from.ensures
    ∙ ap (take c.args.call.now.count) c.as_slice-items.ensures
