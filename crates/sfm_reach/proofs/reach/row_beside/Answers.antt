use Rattle.sfm_reach.proofs.Reaching.{row_of}
use Rattle.sfm_reach.proofs.reach.row_beside.Goals as goal

pub returns-clause-row : goal.returns-clause-row
returns-clause-row g c = row_of _ _ _ c.args.lead.now.from c.turn.result c.reach_by.new.to
    c.requires.based.based.entries c.in_ok-reach_by.ensures.reached
    (rw c.elements.ensures at c.turn.ensures.places)

pub turn-requires-clause-placed : goal.turn-requires-clause-placed
turn-requires-clause-placed g c = rw c.elements.ensures c.requires.based.placed

pub turn-requires-clause-image : goal.turn-requires-clause-image
turn-requires-clause-image g c =
    let image = c.requires.image in rw c.elements.ensures
    (record { count = image.count; exact = image.exact; order = image.order })

pub returns-clause-image : goal.returns-clause-image
returns-clause-image g c = rw c.elements.ensures at c.turn.ensures.image
