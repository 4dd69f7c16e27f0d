-- the sum so far, what is left of it, and a bound for both
use Rattle.std.proofs.Common.{◌≡◌, drop, pos, ◌+ℤ◌, ◌≤ℤ◌}
use Rattle.sfm_spec.specs.Sets.{magnitudes}
use Rattle.sfm_extreme.proofs.Deficits.{deficit_list}
use Rattle.sfm_extreme.proofs.deficit.deficit_of.Given as goal

abbrev pub invariant-loop-a : goal.invariant-loop-a
invariant-loop-a l = ((l.sum +ℤ deficit_list (drop l.a-index l.z)) ≡ deficit_list l.z)
    × (l.sum ≤ℤ pos 0)
    × (magnitudes (drop l.a-index l.z) ≤ℤ (l.sum +ℤ magnitudes l.z))
