-- What is seen of a sink, before it is written to and after that.
use Rattle.std.specs.Prelude.{ℕ, ◌≡◌, ◌≤◌, ◌⊎◌, List, take, Option, None, Result, OnOk, OnErr}
use Rattle.dt_io.specs.Causes.{Rose}
use Rattle.dt_io.specs.Bytes.{extend, AppendsPart}

-- what is seen of a sink
pub record SinkSeen (Rest : Type 0) : Type 0 where
  -- the bytes written so far, where they are known
  pub written : Option (List ℕ)
  -- how often a write failed
  pub faults : ℕ
  -- what no write changes
  pub rest : Rest

-- A write failed: the count of failed writes rose.
abbrev pub WriteFailed : {Rest : Type 0} → SinkSeen Rest → SinkSeen Rest → Type 0
WriteFailed before after = Rose before.faults after.faults

-- The sink is written to and no more: its count doesn't fall, and the rest stays.
pub record IsOnlyWritten {Rest : Type 0} (before after : SinkSeen Rest) : Type 0 where
  pub faults : before.faults ≤ after.faults
  pub rest : after.rest ≡ before.rest

-- A text is written: all of it, or a part of it up to the first write that failed.
pub record Writes {Rest T E : Type 0} (before after : SinkSeen Rest) (text : List ℕ)
    (result : Result T E) : Type 0 where
  pub all : OnOk result (after.written ≡ extend before.written text)
  pub part : OnErr result (AppendsPart before.written after.written text)
  pub cause : OnErr result (WriteFailed before after)
  pub only : IsOnlyWritten before after

-- A text is said, whether it is taken or not: a prefix of it came behind what is known, and all of it where no write
-- failed.
pub record Reports {Rest : Type 0} (before after : SinkSeen Rest) (text : List ℕ) : Type 0 where
  pub prefix : (n : ℕ) × (after.written ≡ extend before.written (take n text))
  pub all : (after.written ≡ extend before.written text) ⊎ WriteFailed before after
  pub only : IsOnlyWritten before after

-- what is seen of a sink whose bytes aren't known
abbrev pub count_seen : ℕ → SinkSeen (Unit {0})
count_seen faults = record { written = None; faults = faults; rest = tt }
