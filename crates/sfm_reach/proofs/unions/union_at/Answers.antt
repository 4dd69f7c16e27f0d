use Rattle.sfm_reach.specs.Spots.{spot_at}
use Rattle.sfm_reach.proofs.Uniting.{union_more, row_read}
use Rattle.sfm_reach.proofs.unions.union_at.Goals as goal

pub loop-spot-preserved : goal.loop-spot-preserved
loop-spot-preserved c =
    let k = c.loop-spot.spot-index in
    let r = c.requires k c.loop-spot-test.true in
    let row = row_read c.args.rows.now (spot_at c.args.spots.now k) c.index-rows-spot.result
    c.as_slice.result.now _ r.0 r.1 c.index-rows-spot.is c.as_slice.ensures in
    union_more c.args.rows.now c.args.spots.now k c.loop-spot.union c.union_with.new.self _
    c.loop-spot.invariant row c.union_with.ensures
