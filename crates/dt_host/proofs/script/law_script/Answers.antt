-- The script's invariant, as a fact of what contracts see.
use Rattle.std.proofs.Common.{◌≡◌, ◌≤◌, ◌^◌, length, subst, vec_len, rules, arith}
use Rattle.std.specs.Prelude.{All}
use Rattle.std.proofs.lemmas.List.Elements.{All-map}
use Rattle.dt_host.specs.Scripts.{ScriptMemory, answer_seen}
use Rattle.dt_host.proofs.ScriptCalls.{IsSmall, calls_kept, script_alike}
use Rattle.dt_host.proofs.script.law_script.Goals as goal

pub returns-clause-alike : goal.returns-clause-alike
returns-clause-alike c =
    let outcomes : vec_len c.script.inside.outcomes ≡ length c.script.inside.outcomes.items = search rules in
    let most = c.script.invariant.3 in
    let few = subst (λ (s : ScriptMemory). length s.outcomes ≤ 2 ^ 64) c.script.view_is (omega arith) in
    let small = subst (λ (s : ScriptMemory). All IsSmall s.answers) c.script.view_is (All-map IsSmall answer_seen c.script.inside.answers.items c.script.invariant.4) in
    script_alike c.args.script.now few small

pub returns-clause-calls : goal.returns-clause-calls
returns-clause-calls c cs k is =
    let calls : vec_len c.script.inside.calls ≡ length c.script.inside.calls.items = search rules in
    let room = c.script.invariant.0 in
    let within = subst (λ (s : ScriptMemory). length s.calls ≤ s.room) c.script.view_is (omega arith) in
    calls_kept c.args.script.now cs k within is
