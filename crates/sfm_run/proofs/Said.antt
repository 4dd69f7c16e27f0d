-- What is written of a line.
use Rattle.std.proofs.Common.{ℕ, List, length, Result, Ok, Err, arith}
use Rattle.std.proofs.Math.Seq.{take-length}
use Rattle.sfm_io.specs.Sink.{SinkState}
use Rattle.sfm_io.specs.Transfer.{WritesAll}
use Rattle.sfm_run.specs.Headline.{Prints}

-- a line that was written, or a front of it
pub says_all : {T E : Type 0} (line : List ℕ) (before after : SinkState) (result : Result T E)
    → WritesAll before line result after → Prints line before after
says_all line before after (Ok t) h =
    record {
      count = length line;
      gained = rw (take-length line) h.whole;
      whole = λ less. absurd (omega (arith, less));
    }
says_all line before after (Err e) h =
    let (k, less, gained) = h.front in record { count = k; gained = gained; whole = λ l. h.rose }
