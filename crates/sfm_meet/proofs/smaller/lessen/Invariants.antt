-- the places so far have the smaller numbers, and the others their own
use Rattle.std.proofs.Common.{◌≡◌, ◌<◌, ◌≤◌, ℕ, length, get_or, pos}
use Rattle.std.specs.Int.{int_min}
use Rattle.sfm_meet.proofs.smaller.lessen.Given as goal

abbrev pub invariant-loop-e : goal.invariant-loop-e
invariant-loop-e l = (length l.least ≡ length l.initial.least)
    × ((k : ℕ) → k < l.e → get_or l.least k (pos 0) ≡ int_min (get_or l.initial.least k (pos 0))
    (get_or l.other k (pos 0)))
    × ((k : ℕ) → l.e ≤ k → get_or l.least k (pos 0) ≡ get_or l.initial.least k (pos 0))
