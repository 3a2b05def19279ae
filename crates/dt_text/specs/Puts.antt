-- Text that is put piece after piece, up to the first write that fails.
use Rattle.std.specs.Prelude.{ℕ, ◌≡◌, Bool, true, false, List}
use Rattle.dt_io.specs.Bytes.{extend, AppendsPart}
use Rattle.dt_io.specs.Sinks.{SinkSeen, IsOnlyWritten, WriteFailed}

-- what is seen of where text goes
pub record State (Rest : Type 0) : Type 0 where
  pub sink : SinkSeen Rest
  -- whether a write failed
  pub failed : Bool

-- The text came behind what is known; or a write failed and a part of the text did; or one had failed before and
-- nothing happened.
pub record Puts {Rest : Type 0} (before after : State Rest) (text : List ℕ) : Type 0 where
  pub all : after.failed ≡ false → (before.failed ≡ false) × (after.sink.written ≡ extend before.sink.written text)
  pub part : before.failed ≡ false → after.failed ≡ true
      → AppendsPart before.sink.written after.sink.written text × WriteFailed before.sink after.sink
  pub still : before.failed ≡ true → after ≡ before
  pub only : IsOnlyWritten before.sink after.sink
