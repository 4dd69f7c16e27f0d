use Rattle.std.proofs.Common.{◌≡◌, ◌<◌, length, sym, ◌∙◌, arith}
use Rattle.sfm_reach.specs.Spots.{spots_at}
use Rattle.sfm_reach.proofs.Spotting.{spots_read}
use Rattle.sfm_stage.proofs.aims.hop_into.Given as given
use Rattle.sfm_stage.proofs.aims.hop_into.Goals as goal
use Rattle.sfm_stage.proofs.aims.hop_into.Goals.{After-as_slice-spot-items}

-- there are spots of the place
inside : (g : given.Over) (c : After-as_slice-spot-items g)
    → c.args.at < length c.args.graph.now.spots.items
inside g c =
    let l = c.requires.spots.1 in
    let are = c.requires.spots.2 in
    omega (arith, l, are.count)

-- and these are looked at
look : (g : given.Over) (c : After-as_slice-spot-items g)
    → spots_at c.args.graph.now.spots.items c.args.at ≡ c.as_slice-spot-items.result.now
look g c = spots_read c.args.graph.now.spots.items c.args.at c.index-here.result.now (inside g c)
    c.index-here.ensures ∙ sym c.as_slice-spot-items.ensures

pub hop_at-requires-clause-spot : goal.hop_at-requires-clause-spot
hop_at-requires-clause-spot g c =
    let at = (goal.at.hop_at-requires-clause-spot g c).After-as_slice-spot-items in
    let same = look g at in
    let are = c.requires.spots.2 in
    rw same at (are.sound c.args.at c.loop-spot.spot-index c.requires.spots.1
    (rw same c.loop-spot-test.true))

pub hop_at-requires-clause-rows : goal.hop_at-requires-clause-rows
hop_at-requires-clause-rows g c =
    let at = (goal.at.hop_at-requires-clause-rows g c).After-as_slice-spot-items in
    let same = look g at in
    let row = rw same at (c.requires.rows c.args.at (inside g at) c.loop-spot.spot-index
    (rw same c.loop-spot-test.true)) in
    rw c.deref.ensures.value row.0

pub hop_at-requires-clause-row : goal.hop_at-requires-clause-row
hop_at-requires-clause-row g c =
    let at = (goal.at.hop_at-requires-clause-row g c).After-as_slice-spot-items in
    let same = look g at in
    let row = rw same at (c.requires.rows c.args.at (inside g at) c.loop-spot.spot-index
    (rw same c.loop-spot-test.true)) in
    rw c.deref.ensures.value row.1
