use Rattle.std.proofs.Common.{◌≤◌, length}
use Rattle.sfm_passes.proofs.PieceCuts.{IsPassed}
use Rattle.sfm_passes.proofs.piece_cut.semicolon_cut.Given as goal

abbrev pub invariant-loop-token : goal.invariant-loop-token
invariant-loop-token l = record {
  passed : IsPassed l.line l.left;
  shorter : length l.left ≤ length l.line;
}

abbrev pub decreases-loop-token : goal.decreases-loop-token
decreases-loop-token l = length l.left
