use Rattle.std.proofs.Common.{rules}
use Rattle.std.proofs.lemmas.Iterator.{items_from_collect, YieldsList-from_slice, YieldsList-from_map}
use Rattle.dt_tool.proofs.evaluate.names_of.Goals as goal

pub returns : goal.returns
returns c =
    items_from_collect _ c.collect.ensures.ran
    (YieldsList-from_map _ (λ s. s.name) (YieldsList-from_slice c.args.sets.now cc) c.map.ensures.closure
    (λ x r q k. search rules))
