use Rattle.std.proofs.Common.{◌∙◌, pos, ap, rules}
use Rattle.std.specs.Prelude.{unwrap_or}
use mir.Syntax.{w128}
use mir.Val.{SFits}
use Rattle.std.proofs.lemmas.Int.{to_z-of_z}
use Rattle.dt_values.specs.Held.{held_by}
use Rattle.dt_match.proofs.GivenNumbers.{given_first, given_second}
use Rattle.dt_match.proofs.arguments.number_given.Goals as goal

pub returns-in-Some : goal.returns-in-Some
returns-in-Some g c =
    let answer = (g.H.Host.host c.args.host.now).answer (g.H.Host.state c.args.host.now) in
    let held = held_by c.args.held.now.members.now c.args.held.now.items in
    let fits : SFits w128 c.in-Some.number = search rules in
    to_z-of_z w128 c.in-Some.number fits
    ∙ given_first answer held c.args.word c.args.kept.now c.args.own.now c.args.name c.in-Some.number c.in-Some.ensures

pub returns-in-None : goal.returns-in-None
returns-in-None g c =
    let answer = (g.H.Host.host c.args.host.now).answer (g.H.Host.state c.args.host.now) in
    let held = held_by c.args.held.now.members.now c.args.held.now.items in
    let fits : SFits w128 c.unwrap_or.result = search rules in
    let value = c.unwrap_or.ensures in
    let own = c.number_in-in-None.ensures in
    let none = c.in-None.ensures in
    to_z-of_z w128 c.unwrap_or.result fits
    ∙ (value ∙ ap (λ o. unwrap_or o (pos 0)) own)
    ∙ given_second answer held c.args.word c.args.kept.now c.args.own.now c.args.name none
