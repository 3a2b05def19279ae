-- Runs with a script in memory and with the plain one of its lists.
use Rattle.std.proofs.Common.{◌≡◌, ◌≤◌, ℕ, suc, ◌+◌, List, [], ◌∷◌, ◌++◌, length, map, refl, ap, sym, ◌∙◌, arith}
use Rattle.std.proofs.lemmas.List.{length-append, length-map, take_all}
use Rattle.dt_values.specs.declared.set.SetDef.{SetDef}
use Rattle.c_subset.specs.Programs.{Program}
use Rattle.c_subset.specs.Sites.{call_sites}
use Rattle.dt_host.specs.Alike.{AreAlike, state_after}
use Rattle.dt_host.specs.Hosts.{Call}
use Rattle.dt_host.specs.Scripts.{IsAfter, ScriptMemory, after_calls, kept_call, memory_host, plain_script, up_to_end}
use Rattle.c_eval.specs.Runs.{run_of}
use Rattle.c_eval.specs.ScriptRuns.{IsPlainRun}
use Rattle.c_eval.proofs.AlikeRuns.{alike_runs}
use Rattle.c_eval.proofs.RunSteps.{calls_within, run_left}

plain_count : (s : ScriptMemory) (cs : List Call) (k : ℕ) → state_after (plain_script s) k cs ≡ k + length cs
plain_count s [] k = omega arith
plain_count s (c ∷ cs) k =
    let e : (k + 1) + length cs ≡ k + suc (length cs) = omega arith in
    plain_count s cs (k + 1) ∙ e

-- what law_script says of a script: it answers as the plain one does, and keeps the first of its calls
module _ (start : ScriptMemory) (alike : AreAlike (IsAfter start) memory_host (plain_script start))
    (kept : (calls : List Call) (k : ℕ) → start.count ≡ up_to_end k
    → state_after memory_host start calls ≡ after_calls start calls (k + length calls))
    (program : Program) (outside : List SetDef) (word : ℕ) where
  pub script_run : (k : ℕ) → start.count ≡ up_to_end k
      → IsPlainRun start (run_of program outside memory_host word start)
      (run_of program outside (plain_script start) word k)
  script_run k is =
      let plain = run_of program outside (plain_script start) word k in
      let same = alike_runs (IsAfter start) memory_host (plain_script start) alike program outside word start k
      (record { outcomes = refl; answers = refl; count = is }) in
      let count : k + length plain.calls ≡ plain.state =
      sym (run_left (plain_script start) program outside word k ∙ plain_count start plain.calls k) in
      record {
        calls = same.calls;
        ended = same.ended;
        tests = same.tests;
        state = run_left memory_host program outside word start ∙ ap (state_after memory_host start) same.calls
            ∙ kept plain.calls k is ∙ ap (after_calls start plain.calls) count;
      }

  -- with room for a call at each site every call is kept
  pub all_kept : (k : ℕ) → start.count ≡ up_to_end k
      → length start.calls + length (call_sites program.body) ≤ start.room
      → (run_of program outside memory_host word start).state.calls
      ≡ start.calls ++ map kept_call (run_of program outside (plain_script start) word k).calls
  all_kept k is room =
      let plain = run_of program outside (plain_script start) word k in
      let few = calls_within (plain_script start) program outside word k in
      let kept_few = length-map plain.calls kept_call in
      let both = length-append start.calls (map kept_call plain.calls) in
      ap (λ (s : ScriptMemory). s.calls) (script_run k is).state
      ∙ take_all start.room (start.calls ++ map kept_call plain.calls) (omega arith)

  -- and these are all that a new script has
  pub fresh_kept : start.calls ≡ [] → start.count ≡ 0 → length (call_sites program.body) ≤ start.room
      → (run_of program outside memory_host word start).state.calls
      ≡ map kept_call (run_of program outside (plain_script start) word 0).calls
  fresh_kept empty unused room =
      let plain = run_of program outside (plain_script start) word 0 in
      let none = ap length empty in
      all_kept 0 unused (omega arith) ∙ ap (λ calls. calls ++ map kept_call plain.calls) empty
