use Rattle.std.proofs.Common.{◌≡◌, ℕ, ◌<◌, get_or, pos}
use Rattle.sfm_rank.specs.Terms.{at_places}
use Rattle.sfm_matroid.proofs.ranked.write_at.Given as goal

abbrev pub invariant-loop-j : goal.invariant-loop-j
invariant-loop-j l = (i : ℕ) → i < l.j → get_or l.x i (pos 0) ≡ get_or (at_places l.m l.set) i
    (pos 0)
