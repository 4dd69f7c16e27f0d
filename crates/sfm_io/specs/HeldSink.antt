-- A sink over memory, and what its call does, to the byte.
use Rattle.std.specs.Prelude.{◌≡◌, ℕ, ◌+◌, ◌-◌, ◌<◌, List, [], ◌++◌, length, min, take, ◌⊎◌, Some, Result, Ok, IfOk, OnOk, OnErr, Contains}
use Rattle.sfm_io.specs.Faults.{counted}
use Rattle.sfm_io.specs.Sink.{SinkState}

-- All bytes taken so far, the counts of faults and calls, the most bytes that a write takes, how
-- many more bytes fit, and the numbers of the calls that fail.
pub record HeldSink : Type 0 where
  pub written : List ℕ
  pub faults : ℕ
  pub calls : ℕ
  pub piece : ℕ
  pub room : ℕ
  pub failing : List ℕ

-- what it tells: all
abbrev pub state_of : HeldSink → SinkState
state_of s = record { written = Some s.written; faults = s.faults }

-- the next call is listed as failing, or no room is left
abbrev pub IsStopped : HeldSink → Type 0
IsStopped s = Contains s.failing (s.calls + 1) ⊎ (s.room ≡ 0)

-- how many bytes a write takes: the least of the piece's bound, the bytes given and the room left
abbrev pub write_count : HeldSink → List ℕ → ℕ
write_count s bytes = min (min s.piece (length bytes)) s.room

-- the sink after a call that took k of these bytes
abbrev pub after_write : HeldSink → List ℕ → ℕ → HeldSink
after_write s bytes k = record s
    { written = s.written ++ take k bytes; calls = counted s.calls; room = s.room - k }

-- the sink after a failed call
abbrev pub after_fault : HeldSink → HeldSink
after_fault s = record s { calls = counted s.calls; faults = counted s.faults }

-- `write(bytes)`: of bytes that are not empty it fails exactly at a listed call or with no room
-- left
pub record WritesHeld {E : Type 0} (before : HeldSink) (bytes : List ℕ) (result : Result ℕ E)
    (after : HeldSink) : Type 0 where
  pub empty : bytes ≡ [] → (result ≡ Ok 0) × (after ≡ before)
  pub passes : OnOk result (0 < length bytes → ¬ IsStopped before)
  pub fails : OnErr result ((0 < length bytes) × IsStopped before)
  pub taken : IfOk result (λ k. k ≡ write_count before bytes)
  pub written : IfOk result (λ k. 0 < length bytes → after ≡ after_write before bytes k)
  pub failed : OnErr result (after ≡ after_fault before)
