-- none of the edges so far has this tail
use Rattle.std.proofs.Common.{◌≢◌, ℕ, ◌<◌, get_or}
use Rattle.sfm_graphic.proofs.testing.is_tail.Given as goal

abbrev pub invariant-loop-pair : goal.invariant-loop-pair
invariant-loop-pair l = (k : ℕ) → k < l.pair-index → (get_or l.ends k (0, 0)).0 ≢ l.a
