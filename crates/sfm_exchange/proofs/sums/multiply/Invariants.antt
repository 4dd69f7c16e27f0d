-- the first sums are multiplied
use Rattle.std.proofs.Common.{◌≡◌, map, take, ◌*ℤ◌}
use Rattle.sfm_exchange.proofs.sums.multiply.Given as goal

abbrev pub invariant-loop-a : goal.invariant-loop-a
invariant-loop-a l = l.all.items ≡ map (λ a. l.m *ℤ a) (take l.a-index l.sums)
