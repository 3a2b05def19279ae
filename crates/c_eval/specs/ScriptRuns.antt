-- Runs with a script as it lies in memory.
use Rattle.std.specs.Prelude.{◌≡◌, ℕ}
use Rattle.dt_host.specs.Scripts.{ScriptMemory, after_calls}
use Rattle.c_eval.specs.Runs.{Run}

-- a run with this script is that with the plain one: its calls, its end, its tests, and the script that is left
pub record IsPlainRun (start : ScriptMemory) (run : Run ScriptMemory) (plain : Run ℕ) : Type 0 where
  pub calls : run.calls ≡ plain.calls
  pub ended : run.ended ≡ plain.ended
  pub tests : run.tests ≡ plain.tests
  pub state : run.state ≡ after_calls start plain.calls plain.state
