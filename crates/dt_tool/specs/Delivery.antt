-- A text is handed over: to `out`, or to a file.
use Rattle.std.specs.Prelude.{ℕ, ◌≡◌, List, Option, None, IsSome}
use Rattle.dt_io.specs.Sinks.{IsOnlyWritten}
use Rattle.dt_tool.specs.Messages as said
use Rattle.dt_tool.specs.Outcomes.{RunSeen, NoCountFalls, Says, Stands, StandsPart, WritingFailed}
use Rattle.dt_tool.specs.declared.status.Outcome.{Outcome}
use Rattle.dt_tool.specs.declared.status.Outcome.TheVariants as outcomes

-- a text stands whole, and nothing is said
pub record DeliversAll {O E : Type 0} (output : Option (List ℕ)) (text : List ℕ) (run : RunSeen O E) : Type 0 where
  pub whole : Stands output run text
  pub said : run.err_after ≡ run.err

-- a part of it stands, since a write failed, and that is said
pub record DeliversPart {O E : Type 0} (output : Option (List ℕ)) (text : List ℕ) (run : RunSeen O E) : Type 0 where
  pub part : StandsPart output run text
  pub cause : WritingFailed output run
  pub said : Says run said.cannot_write

abbrev pub DeliveryMeans : {O E : Type 0} → Option (List ℕ) → List ℕ → RunSeen O E → Outcome → Type 0
DeliveryMeans output text run outcomes.Done = DeliversAll output text run
DeliveryMeans output text run outcomes.Refused = ⊥
DeliveryMeans output text run outcomes.Usage = ⊥
DeliveryMeans output text run outcomes.ReadFault = ⊥
DeliveryMeans output text run outcomes.WriteFault = DeliversPart output text run
DeliveryMeans output text run outcomes.NoMemory = ⊥

pub record Delivers {O E : Type 0} (output : Option (List ℕ)) (text : List ℕ) (run : RunSeen O E) : Type 0 where
  pub means : DeliveryMeans output text run run.outcome
  pub counts : NoCountFalls run.folder run.folder_after
  pub to_out : output ≡ None → run.folder_after ≡ run.folder
  pub to_file : IsSome output → run.out_after ≡ run.out
  pub out : IsOnlyWritten run.out run.out_after
  pub err : IsOnlyWritten run.err run.err_after
