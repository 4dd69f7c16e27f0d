-- the marks so far
use Rattle.std.proofs.Common.{◌≡◌, map, take, pos, if◌then◌else◌}
use Rattle.sfm_walk.proofs.shortest_walk.marks.Given as goal

abbrev pub invariant-loop-e : goal.invariant-loop-e
invariant-loop-e l = l.z.items ≡ map (λ b. if b then pos 1 else pos 0) (take l.e l.to)
