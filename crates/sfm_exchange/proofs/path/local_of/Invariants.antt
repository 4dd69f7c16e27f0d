-- none of the places so far is the one that is sought
use Rattle.std.proofs.Common.{◌≡◌, ℕ, ◌<◌, get_or}
use Rattle.sfm_exchange.proofs.path.local_of.Given as goal

abbrev pub invariant-loop-v : goal.invariant-loop-v
invariant-loop-v l = (v : ℕ) → v < l.v → get_or l.places v 0 ≡ l.place → ⊥
