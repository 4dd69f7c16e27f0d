-- the blocks of the first places so far
use Rattle.std.proofs.Common.{map}
use Rattle.sfm_extreme.specs.Blocks.{block_of}
use Rattle.sfm_extreme.proofs.Groups.{AreGroupedTo}
use Rattle.sfm_extreme.proofs.grouping.grouped.Given as goal

abbrev pub invariant-loop-i : goal.invariant-loop-i
invariant-loop-i l = AreGroupedTo l.rows l.firsts l.i (map block_of l.blocks.items)
