-- A call as it is kept.
use Rattle.std.proofs.Common.{◌≡◌, ◌≤◌, ℕ, List, ℤ, length, ap₂, sym, rules, arith}
use Rattle.std.proofs.lemmas.List.{length-take-le}
use Rattle.dt_values.proofs.ArgumentItems.{items_split}
use Rattle.dt_host.specs.declared.script.Call.{Call}
use Rattle.dt_host.proofs.script.kept_call.Goals as goal

pub returns : goal.returns
returns c =
    let vs = c.args.values.now in
    let n = length vs.members.now in
    let few = vs.few in
    let long : length vs.items ≡ 32 = search rules in
    let within : n ≤ length vs.items = omega arith in
    let made : ℕ → List ℤ → Call = λ k l. record { name = c.args.name; count = k; items = l } in
    ap₂ made (sym (length-take-le n vs.items within)) (items_split n vs.items few long vs.zeros)
