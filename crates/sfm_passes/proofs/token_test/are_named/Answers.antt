use Rattle.sfm_passes.proofs.token_test.are_named.Goals as goal

pub returns-in-GraphicRank : goal.returns-in-GraphicRank
returns-in-GraphicRank c = rw c.in-GraphicRank.is c.are_ends.ensures

pub returns-in-TransversalRank : goal.returns-in-TransversalRank
returns-in-TransversalRank c = rw c.in-TransversalRank.is (λ labels are. rw are c.are_slots.ensures)
