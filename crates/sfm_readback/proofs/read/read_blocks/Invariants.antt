use Rattle.std.proofs.Common.{map, length, ◌-◌, ◌≤◌}
use Rattle.sfm_extreme.specs.Blocks.{block_of}
use Rattle.sfm_cert.specs.Solved.{form_of}
use Rattle.sfm_readback.specs.Parts.{ReadsBlocks}
use Rattle.sfm_readback.proofs.read.read_blocks.Given as goal

abbrev pub invariant-loop-alloc : goal.invariant-loop-alloc
invariant-loop-alloc l = ReadsBlocks (form_of l.instance) l.text l.initial.cursor l.cursor
    (map block_of l.blocks.items) × (length l.blocks.items ≤ l.cursor.at)

abbrev pub decreases-loop-alloc : goal.decreases-loop-alloc
decreases-loop-alloc l = length l.text - l.cursor.at
