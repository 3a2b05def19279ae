use Rattle.std.proofs.Common.{◌≡◌, ◌∙◌, Some, sym, ap, rules}
use Rattle.c_subset.specs.View.{program_of}
use Rattle.c_exprs.specs.View.{term_of}
use Rattle.c_eval.specs.Runs.{declared_members}
use Rattle.c_eval.proofs.LiveTurns.{seen_assigned}
use Rattle.c_eval.proofs.steps.assigned.Goals as goal

pub returns : goal.returns
returns g c r live_is state_is =
    let p = program_of c.args.setting.now.program.now in
    let o = c.args.setting.now.outside.now in
    let ms = c.in-Some.members.now in
    let declared : Some ms ≡ declared_members p o c.args.set = search rules in
    seen_assigned p o (g.H.Host.host c.args.host.now) c.args.setting.now.word c.args.set ms declared r c.args.live.now
    (g.H.Host.state c.args.host.now) live_is state_is c.live_set.result c.live_set.ensures.set
    (c.live_set.ensures.held p o)
    c.args.name (term_of c.args.value.now) c.assign_value.result c.assign_value.ensures.held c.assign_value.ensures.set
