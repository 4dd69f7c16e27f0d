use Rattle.sfm_cells.specs.Cells.{cut}
use Rattle.sfm_cells.proofs.Outcomes.{split_from}
use Rattle.sfm_assign.proofs.Remembered.{over_lists}
use Rattle.sfm_assign.proofs.kept.Kept.are_met.Goals as goal

pub returns : goal.returns
returns c =
    let k = c.args.self.now in
    let d = k.demand in
    let y = k.shares.y.items in
    let (part, met, left) = over_lists d _ _ y _ k.met k.left in
    (cut d.lists y, split_from d y c.demands.ensures.sound part met)
