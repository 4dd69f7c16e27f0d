-- the set of the places so far
use Rattle.std.proofs.Common.{◌≡◌, ◌↔◌, ℕ, ◌<◌, length}
use Rattle.sfm_spec.specs.Sets.{Has}
use Rattle.sfm_reach.specs.Bits.{bit_in}
use Rattle.sfm_reach.proofs.reached.set_of.Given as goal

abbrev pub invariant-loop-e : goal.invariant-loop-e
invariant-loop-e l = (length l.set ≡ l.n)
    × ((e : ℕ) → e < l.n → Has l.set e ↔ ((e < l.e) × (bit_in l.bits e ≡ 1)))
