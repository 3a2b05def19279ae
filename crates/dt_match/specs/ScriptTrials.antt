-- Trials with a script as it lies in memory.
use Rattle.std.specs.Prelude.{◌≡◌, ℕ}
use Rattle.dt_host.specs.Scripts.{ScriptMemory, after_calls}
use Rattle.dt_match.specs.Trial.{Trial}

-- a trial with this script is that with the plain one: its calls, its result, and the script that is left
pub record IsPlainTrial (start : ScriptMemory) (trial : Trial ScriptMemory) (plain : Trial ℕ) : Type 0 where
  pub calls : trial.calls ≡ plain.calls
  pub result : trial.result ≡ plain.result
  pub state : trial.state ≡ after_calls start plain.calls plain.state
