use Rattle.std.proofs.Common.{sym, ◌∙◌}
use Rattle.sfm_reach.proofs.Spotting.{spots_read}
use Rattle.sfm_reach.proofs.Uniting.{rows_read, unions_push}
use Rattle.sfm_reach.proofs.unions.unions_of.Goals as goal

pub union_at-requires : goal.union_at-requires
union_at-requires c = rows_read c.args.rows.now c.args.spots.now c.loop-e.e c.index-spots-e.result
    c.as_slice.result.now c.requires c.loop-e-test.true c.index-spots-e.is c.as_slice.ensures

pub loop-e-preserved : goal.loop-e-preserved
loop-e-preserved c =
    let read = spots_read c.args.spots.now c.loop-e.e c.index-spots-e.result c.loop-e-test.true
    c.index-spots-e.is ∙ sym c.as_slice.ensures in
    rw c.in_ok-push.ensures.items
    (unions_push c.args.rows.now c.args.spots.now c.loop-e.e c.loop-e.unions.items
    c.union_at.result c.loop-e.invariant.0 c.loop-e.invariant.1 (rw read c.union_at.ensures))
