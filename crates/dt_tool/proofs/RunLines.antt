-- The calls that a script kept are those of the run, and so are the lines that are written of them.
use Rattle.std.proofs.Common.{◌≡◌, ℕ, ◌-◌, List, [], ◌∷◌, ◌++◌, length, map, flat_map, replicate, refl, ap, ap₂, sym, subst, ◌∙◌}
use Rattle.std.proofs.Common.{Option, Some, None}
use Rattle.std.specs.Prelude.{Bool, ℤ, pos, codes, option_map, unwrap_or}
use Rattle.std.proofs.Math.Seq.{take-append_seam}
use Rattle.dt_text.specs.Puts.{State, Puts}
use Rattle.dt_text.proofs.Putting.{puts_more}
use Rattle.dt_values.specs.declared.ctype.Member.{Member}
use Rattle.dt_host.specs.Hosts.{Answer, Call}
use Rattle.dt_host.specs.Scripts.{kept_call}
use Rattle.c_subset.specs.Programs.{Program}
use Rattle.c_eval.specs.Runs.{Ended, Run}
use Rattle.dt_tool.specs.RunTexts.{argument_text, arguments_text, call_line, end_lines, loaded_text, number_line, run_lines, run_with}
use Rattle.dt_tool.specs.View.{call_seen}

-- a call that was kept is the call
kept_seen : (c : Call) → call_seen (kept_call c) ≡ c
kept_seen c = ap (λ vs. record { name = c.name; values = vs })
    (take-append_seam c.values (replicate (32 - length c.values) (pos 0)))

calls_kept : (program : Program) (calls : List Call)
    → flat_map (λ c. call_line program (call_seen c)) (map kept_call calls) ≡ flat_map (call_line program) calls
calls_kept program [] = refl
calls_kept program (c ∷ cs) =
    ap (λ d. call_line program d ++ flat_map (λ c. call_line program (call_seen c)) (map kept_call cs)) (kept_seen c)
    ∙ ap (λ lines. call_line program c ++ lines) (calls_kept program cs)

-- the lines of calls that were kept, of the end and of the tests are those of the run
pub run_written : (program : Program) (run : Run ℕ) (ended : Ended) (tests : ℕ) → ended ≡ run.ended → tests ≡ run.tests
    → flat_map (λ c. call_line program (call_seen c)) (map kept_call run.calls) ++ end_lines ended tests
    ≡ run_lines program run
run_written program run ended tests e t =
    ap (λ lines. lines ++ end_lines ended tests) (calls_kept program run.calls)
    ∙ ap (λ d. flat_map (call_line program) run.calls ++ end_lines d tests) e
    ∙ ap (λ n. flat_map (call_line program) run.calls ++ end_lines run.ended n) t

-- the lines behind a load
pub loaded_lines : (outcomes : List Bool) (answers : List Answer) (program : Program) (found : Option (ℕ × ℕ))
    (word bytes old : ℕ) → Some word ≡ option_map (λ l. l.0) found → bytes ≡ unwrap_or (option_map (λ l. l.1) found) old
    → number_line (codes "loaded ") bytes ++ run_lines program (run_with outcomes answers program word)
    ≡ loaded_text outcomes answers program found
loaded_lines outcomes answers program None word bytes old w b = absurd (cc)
loaded_lines outcomes answers program (Some (v, n)) word bytes old w b =
    ap (λ k. number_line (codes "loaded ") k ++ run_lines program (run_with outcomes answers program word)) b
    ∙ ap (λ k. number_line (codes "loaded ") n ++ run_lines program (run_with outcomes answers program k)) (same word v w)
  where
    same : (a b : ℕ) → Some a ≡ Some b → a ≡ b
    same a b e = cc

-- one argument more
pub arguments_more : {Rest : Type 0} {a b c : State Rest} (members : List Member) (values : List ℤ) (m : Member)
    (ms : List Member) (v : ℤ) (vs : List ℤ) → members ≡ m ∷ ms → values ≡ v ∷ vs → Puts a b (argument_text (m, v))
    → Puts b c (arguments_text ms vs) → Puts a c (arguments_text members values)
arguments_more {Rest} {a} {b} {c} members values m ms v vs e f first rest =
    subst (λ (text : List ℕ). Puts a c text) (sym (ap₂ arguments_text e f)) (puts_more first rest)
