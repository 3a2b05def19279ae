use Rattle.std.proofs.Common.{sym, ap, ◌∙◌, option_map}
use Rattle.c_eval.specs.LiveSet.{live_seen, live_with}
use Rattle.c_eval.specs.Runs.{held_of}
use Rattle.c_eval.proofs.LiveTurns.{live_first, live_other}
use Rattle.c_eval.proofs.steps.live_set.Goals as goal

pub returns-else-eq-clause-held : goal.returns-else-eq-clause-held
returns-else-eq-clause-held c p o =
    live_other p o c.in-Some.live c.lost.result c.args.set (sym c.eq.ensures ∙ c.if-eq.false) c.lost.ensures.set
    c.lost.ensures.held
    ∙ ap (λ live. live_with c.args.set (held_of (option_map (live_seen p o) live) c.args.set)) (sym c.in-Some.is)

pub returns-in-None-clause-held : goal.returns-in-None-clause-held
returns-in-None-clause-held c p o =
    live_first p o c.lost-in-None.result c.args.set c.lost-in-None.ensures.set c.lost-in-None.ensures.held
    ∙ ap (λ live. live_with c.args.set (held_of (option_map (live_seen p o) live) c.args.set)) (sym c.in-None.is)
