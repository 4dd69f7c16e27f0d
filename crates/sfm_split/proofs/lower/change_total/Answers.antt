use Rattle.std.proofs.Common.{length-set, ◌+ℤ◌, rules, FitsSigned}
use Rattle.std.proofs.lemmas.Int.{to_z-of_z}
use mir.Syntax.{w128}
use Rattle.sfm_cells.specs.Splits.{amount_at}
use Rattle.sfm_split.specs.Sides.{of_side}
use Rattle.sfm_split.proofs.Lowering.{turning, side_put}
use Rattle.sfm_split.proofs.lower.change_total.Goals as goal

pub put-requires-clause-can : goal.put-requires-clause-can
put-requires-clause-can c =
    let fm : FitsSigned w128 c.args.change.more = search rules in
    let (totals, others, h) = c.requires.can in
    let left = c.args.left.now in
    simp to_z-of_z (turning c.args.side totals others c.args.cells.now.whos.items
    c.args.cells.now.slots.items c.args.y.now left.lacks.items left.rooms.items c.args.change
    h).can.put

pub lower_along-requires : goal.lower_along-requires
lower_along-requires c =
    let fm : FitsSigned w128 c.args.change.more = search rules in
    let (totals, others, h) = c.requires.can in
    let left = c.args.left.now in
    let change = c.args.change in
    let own = of_side c.args.side left.lacks.items left.rooms.items in
    let r = turning c.args.side totals others c.args.cells.now.whos.items
    c.args.cells.now.slots.items c.args.y.now left.lacks.items left.rooms.items change h in
    let lacks_are = simp to_z-of_z at c.put.ensures.lacks in
    let rooms_are = simp to_z-of_z at c.put.ensures.rooms in
    rw (lacks_are, rooms_are)
    (record {
      place = rw (
        side_put c.args.side left.lacks.items left.rooms.items change.k change.more,
        length-set own change.k (amount_at own change.k +ℤ change.more),
      ) r.can.put.place;
      charged = r.charged;
      listed = rw lacks_are at c.in_ok-put.ensures.listed;
    })

pub returns-clause-stands : goal.returns-clause-stands
returns-clause-stands c = λ totals others h.
    let fm : FitsSigned w128 c.args.change.more = search rules in
    let left = c.args.left.now in
    let new = c.lower_along.new in
    let lacks_are = simp to_z-of_z at c.put.ensures.lacks in
    let rooms_are = simp to_z-of_z at c.put.ensures.rooms in
    (turning c.args.side totals others c.args.cells.now.whos.items c.args.cells.now.slots.items
    c.args.y.now left.lacks.items left.rooms.items c.args.change h).stands new.y
    new.left.lacks.items new.left.rooms.items
    (rw (lacks_are, rooms_are) at c.in_ok-lower_along.ensures.lowered)
    c.in_ok-lower_along.ensures.mended
