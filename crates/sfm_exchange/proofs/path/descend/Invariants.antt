-- the steps so far lead to a place of the level k
use Rattle.std.proofs.Common.{◌≡◌, ◌+◌, ◌<◌, length}
use Rattle.sfm_spec.specs.Families.{meanings}
use Rattle.sfm_spec.specs.Labels.{FallsAlong}
use Rattle.sfm_spec.specs.Walks.{last_of}
use Rattle.sfm_reach.specs.Bits.{bit_in, set_at}
use Rattle.sfm_exchange.specs.Levels.{depth_of}
use Rattle.sfm_exchange.specs.Hops.{AreHops, AreLeast, steps_of}
use Rattle.sfm_exchange.proofs.path.descend.Given as goal

abbrev pub invariant-loop-k : goal.invariant-loop-k
invariant-loop-k g l = let t = g.T.Term in (l.k < length l.levels)
    × (bit_in (set_at l.levels l.k) l.at ≡ 1)
    × (l.at ≡ last_of l.first (steps_of l.hops.items))
    × AreHops (meanings t.places t.value_of l.terms) l.graph.rows.items l.first l.hops.items
    × FallsAlong (depth_of l.levels) l.first (steps_of l.hops.items)
    × (length l.hops.items + l.k + 1 ≡ length l.levels)
    × AreLeast (meanings t.places t.value_of l.terms) l.graph.rows.items (depth_of l.levels) l.first
    l.hops.items

abbrev pub decreases-loop-k : goal.decreases-loop-k
decreases-loop-k g l = l.k
