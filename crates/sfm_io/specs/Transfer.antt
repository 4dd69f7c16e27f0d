-- What is moved by reading a text to its end, and by writing bytes whole.
use Rattle.std.specs.Prelude.{◌≡◌, ℕ, ◌+◌, ◌<◌, ◌≤◌, List, [], ◌++◌, length, take, drop, Some, true, Result, ⊤, IfOk, IfErr, OnOk, OnErr}
use Rattle.std.specs.Io.KnownBytes.{append_known, Consumes, IsAtEnd}
use Rattle.sfm_io.specs.Faults.{Rose}
use Rattle.sfm_io.specs.Shelf.{ShelfState, KeepsShelf}
use Rattle.sfm_io.specs.Sink.{SinkState}
use Rattle.sfm_io.specs.declared.transfer.ReadEnd.{ReadEnd}
use Rattle.sfm_io.specs.declared.transfer.ReadEnd.TheVariants.{Fault, Long, Memory}

-- the count of faults rose, and the shelf was not sound
pub record IsFault (before after : ShelfState) : Type 0 where
  pub rose : Rose before.faults after.faults
  pub unsound : ¬ (before.sound ≡ true)

-- more bytes than the limit were there, and one more than the limit was taken
pub record IsLong (before : ShelfState) (limit : ℕ) (after : ShelfState) : Type 0 where
  pub longer : (rest : List ℕ) → before.rest ≡ Some rest → limit < length rest
  pub left : (rest : List ℕ) → before.rest ≡ Some rest → after.rest ≡ Some (drop (limit + 1) rest)

-- why reading ended before the end of the text. Want of memory is free
abbrev pub IsCause : ShelfState → ℕ → ReadEnd → ShelfState → Type 0
IsCause before limit Fault after = IsFault before after
IsCause before limit Long after = IsLong before limit after
IsCause before limit Memory after = ⊤

-- these bytes are all that was unread, where that is told
pub record IsRest (before : ShelfState) (bytes : List ℕ) (after : ShelfState) : Type 0 where
  pub whole : (rest : List ℕ) → before.rest ≡ Some rest → bytes ≡ rest
  pub ended : (rest : List ℕ) → before.rest ≡ Some rest → after.rest ≡ Some []

-- why one read gave nothing
abbrev pub IsStop : ShelfState → ReadEnd → ShelfState → Type 0
IsStop before Fault after = IsFault before after
IsStop before Long after = ⊥
IsStop before Memory after = ⊤

-- one read of at most so many bytes, which are put behind those that were there
pub record ReadsOn (before : ShelfState) (had : List ℕ) (most : ℕ) (result : Result ℕ ReadEnd)
    (has : List ℕ) (after : ShelfState) : Type 0 where
  pub kept : KeepsShelf [] before after
  pub count : IfOk result (λ k. (length has ≡ length had + k) × (k ≤ most))
  pub taken : OnOk result ((bytes : List ℕ) × (has ≡ had ++ bytes)
      × Consumes before.rest after.rest bytes)
  pub ends : IfOk result (λ k. k ≡ 0 → IsAtEnd before.rest)
  pub stop : IfErr result (λ end. IsStop before end after)

-- `write_all(bytes)` on a sink: all of them were taken, or a front of them and the count rose
pub record WritesAll {T E : Type 0} (before : SinkState) (bytes : List ℕ) (result : Result T E)
    (after : SinkState) : Type 0 where
  pub grows : before.faults ≤ after.faults
  pub whole : OnOk result (after.written ≡ append_known before.written bytes)
  pub front : OnErr result ((k : ℕ) × (k < length bytes)
      × (after.written ≡ append_known before.written (take k bytes)))
  pub rose : OnErr result (Rose before.faults after.faults)
  pub empty : bytes ≡ [] → after ≡ before
