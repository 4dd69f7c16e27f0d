-- What a sink is, and what its call does.
use Rattle.std.specs.Prelude.{◌≡◌, ℕ, ◌<◌, ◌≤◌, List, [], length, take, Option, None, Result, Ok, IfOk, OnErr}
use Rattle.std.specs.Io.KnownBytes.{append_known}
use Rattle.sfm_io.specs.Faults.{Rose}

-- What a sink tells: `written` are all bytes that it took, in order.
pub record SinkState : Type 0 where
  pub written : Option (List ℕ)
  pub faults : ℕ

-- `write(piece)` on a sink
pub record Writes {E : Type 0} (before : SinkState) (piece : List ℕ) (result : Result ℕ E) (after : SinkState) : Type 0 where
  pub grows : before.faults ≤ after.faults
  -- a front of the piece was taken
  pub count : IfOk result (λ k. k ≤ length piece)
  pub some : IfOk result (λ k. 0 < length piece → 1 ≤ k)
  pub taken : IfOk result (λ k. after.written ≡ append_known before.written (take k piece))
  -- an empty piece gives 0 and changes nothing
  pub empty : piece ≡ [] → (result ≡ Ok 0) × (after ≡ before)
  -- a failed call takes nothing
  pub untouched : OnErr result (after.written ≡ before.written)
  pub rose : OnErr result (Rose before.faults after.faults)

-- a sink that tells nothing but its count of faults
abbrev pub untold_state : ℕ → SinkState
untold_state faults = record { written = None; faults = faults }
