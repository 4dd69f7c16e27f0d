-- v stands in none of the places so far
use Rattle.std.proofs.Common.{◌≡◌, ℕ, ◌<◌, false, get_or, nat_eq}
use Rattle.sfm_graphic.proofs.graph.place.Given as goal

abbrev pub invariant-loop-i : goal.invariant-loop-i
invariant-loop-i l = (k : ℕ) → k < l.i → nat_eq (get_or l.vertices k 0) l.v ≡ false
