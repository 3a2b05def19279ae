-- What the code's values stand for.
use Rattle.std.specs.Prelude.{ℕ, List, Vec, map, take}
use Rattle.dt_host.specs.Hosts.{Call as Called}
use Rattle.dt_host.specs.Scripts.{answer_seen}
use Rattle.dt_host.specs.declared.script.Call.{Call}
use Rattle.dt_tool.specs.Due.{Asked}
use Rattle.dt_tool.specs.Evaluations.{Evaluation}
use Rattle.dt_tool.specs.Messages as said
use Rattle.dt_tool.specs.declared.request.Evaluation.{Evaluation as MadeEvaluation}
use Rattle.dt_tool.specs.declared.request.Request.{Request}
use Rattle.dt_tool.specs.declared.stop.Stop.{Stop}
use Rattle.dt_tool.specs.declared.stop.Stop.TheVariants as stops
use Rattle.dt_tool.specs.declared.status.Outcome.{Outcome}
use Rattle.dt_tool.specs.declared.status.Outcome.TheVariants as outcomes

abbrev pub asked_seen : Request → Asked
asked_seen request = record {
  options = request.options.now;
  output = request.output.now;
  names = request.files.now;
}

abbrev pub evaluation_seen : MadeEvaluation → Evaluation
evaluation_seen request = record {
  text = request.text.now;
  word = request.word;
  given = request.given.now;
  outcomes = request.outcomes.now;
  answers = map answer_seen request.answers.now;
}

-- the bytes of each file
abbrev pub contents : {A : Type 0} → List (Vec ℕ A) → List (List ℕ)
contents files = map (λ file. file.items) files

-- how a run ends that stops, and what is said of it
abbrev pub outcome_of : Stop → Outcome
outcome_of (stops.ReadFault message) = outcomes.ReadFault
outcome_of (stops.Refused message) = outcomes.Refused
outcome_of stops.NoMemory = outcomes.NoMemory

abbrev pub message_of : Stop → List ℕ
message_of (stops.ReadFault message) = message.items
message_of (stops.Refused message) = message.items
message_of stops.NoMemory = said.no_memory

-- a call that was kept
abbrev pub call_seen : Call → Called
call_seen call = record { name = call.name; values = take call.count call.items }
