-- the unions of the places so far
use Rattle.std.proofs.Common.{◌≡◌, ℕ, ◌<◌, length}
use Rattle.sfm_reach.specs.Bits.{set_at}
use Rattle.sfm_reach.specs.Spots.{spots_at}
use Rattle.sfm_reach.specs.Unions.{IsUnion}
use Rattle.sfm_reach.proofs.unions.unions_of.Given as goal

abbrev pub invariant-loop-e : goal.invariant-loop-e
invariant-loop-e l = (length l.unions.items ≡ l.e)
    × ((e : ℕ) → e < l.e → IsUnion l.rows (spots_at l.spots e) (length (spots_at l.spots e))
    (set_at l.unions.items e))
