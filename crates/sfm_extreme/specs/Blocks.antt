-- Blocks as the program keeps them.
use Rattle.sfm_spec.specs.Blocks.{Block as Generator}
use Rattle.sfm_extreme.specs.declared.grouping.Block.{Block}

-- the places of a block, and the numbers of those that it needs
abbrev pub block_of : Block → Generator
block_of b = record { members = b.members; needs = b.needs.items }
