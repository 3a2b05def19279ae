-- A sink in memory that grows, as where text goes.
use Rattle.std.specs.Prelude.{ℕ, List, Some, nat_lt}
use Rattle.dt_io.specs.Sinks.{SinkSeen}
use Rattle.dt_text.specs.Puts.{State}

-- its bytes, and how often memory ran out
pub record GrowingMemory : Type 0 where
  pub written : List ℕ
  pub faults : ℕ

-- what is seen of it as a sink
abbrev pub growing_sink : GrowingMemory → SinkSeen (Unit {0})
growing_sink memory = record { written = Some memory.written; faults = memory.faults; rest = tt }

-- what is seen of it as where text goes
abbrev pub growing_state : GrowingMemory → State (Unit {0})
growing_state memory = record { sink = growing_sink memory; failed = nat_lt 0 memory.faults }
