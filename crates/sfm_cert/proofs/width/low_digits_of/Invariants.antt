-- so many digits were counted, and the others are those of what is left
use Rattle.std.proofs.Common.{◌≡◌, ◌+◌, length}
use Rattle.std.specs.Fmt.{decimal}
use Rattle.sfm_cert.proofs.width.low_digits_of.Given as goal

abbrev pub invariant-loop-low : goal.invariant-loop-low
invariant-loop-low l = record {
  digits : length (decimal l.n) ≡ length (decimal l.low) + l.count;
}

abbrev pub decreases-loop-low : goal.decreases-loop-low
decreases-loop-low l = l.low
