use Rattle.std.proofs.Common.{◌≡◌, ◌<◌, length, get_or}
use Rattle.sfm_reach.specs.Spots.{spots_at}
use Rattle.sfm_reach.proofs.Spotting.{adds_more, spots_read}
use Rattle.sfm_reach.proofs.spots.add_spots.Goals as goal

pub loop-local-preserved : goal.loop-local-preserved
loop-local-preserved c =
    let pushed = c.in_ok-push.ensures in
    let k = c.loop-local.local in
    let mid = c.loop-local.spots.items in
    let place = get_or c.args.places.now k 0 in
    let inside : place < length mid = rw c.loop-local.invariant.count
    (c.requires.below k c.loop-local-test.true) in
    let read : spots_at mid place ≡ c.index_mut-at.result.now = spots_read mid place
    c.index_mut-at.result.now inside c.index_mut-at.ensures.value in
    rw (pushed, ← read) (adds_more c.args.places.now c.args.i k c.args.spots.now.items mid
    c.loop-local.invariant inside)
