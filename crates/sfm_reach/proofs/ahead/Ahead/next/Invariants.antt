-- what is left stays the same
use Rattle.std.specs.Prelude.{◌≡◌, ℕ, ◌<◌, ◌-◌}
use Rattle.sfm_reach.specs.Bits.{bit_in, left_of}
use Rattle.sfm_reach.proofs.ahead.Ahead.next.Given as goal

abbrev pub invariant-loop-word : goal.invariant-loop-word
invariant-loop-word l = (l.k < 4)
    × ((e : ℕ) → bit_in (left_of l.self-inside.places.now l.k l.word) e ≡ bit_in
    (left_of l.self-inside.places.now l.self-inside.k l.self-inside.word) e)

abbrev pub decreases-loop-word : goal.decreases-loop-word
decreases-loop-word l = 4 - l.k
