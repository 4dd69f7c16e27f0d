-- the part so far has of the places so far those that the set has
use Rattle.std.proofs.Common.{◌≡◌, ℕ, ◌<◌, false, length, get_or}
use Rattle.sfm_base.proofs.set.Set.put_part.Given as goal

abbrev pub invariant-loop-j : goal.invariant-loop-j
invariant-loop-j l = (length l.self ≡ length l.places)
    × ((k : ℕ) → k < l.j → get_or l.self k false ≡ get_or l.whole (get_or l.places k 0) false)
