-- z at the first places
use Rattle.std.proofs.Common.{◌≡◌, ℕ, ◌<◌, length, get_or, pos, ◌-ℤ◌}
use Rattle.sfm_walk.proofs.rest.rest_from.Given as goal

abbrev pub invariant-loop-e : goal.invariant-loop-e
invariant-loop-e l = (length l.z.items ≡ l.e)
    × ((k : ℕ) → k < l.e → get_or l.z.items k
    (pos 0) ≡ (get_or l.sums k (pos 0) -ℤ get_or l.shift k (pos 0)))
