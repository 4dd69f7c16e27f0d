use Rattle.sfm_reach.proofs.Reaching.{row_of}
use Rattle.sfm_reach.proofs.reach.row_by.Goals as goal

pub returns-clause-row : goal.returns-clause-row
returns-clause-row g c = row_of _ _ _ c.args.u c.placed_bits.result c.reach_by.new.to
    c.requires.based.based.entries c.in_ok-reach_by.ensures.reached
    (rw c.elements.ensures at c.placed_bits.ensures)

pub placed_bits-requires-clause-placed : goal.placed_bits-requires-clause-placed
placed_bits-requires-clause-placed g c = rw c.elements.ensures c.requires.based.placed
