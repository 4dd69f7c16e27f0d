-- the steps so far
use Rattle.std.proofs.Common.{◌≡◌, take}
use Rattle.sfm_exchange.specs.Hops.{steps_of}
use Rattle.sfm_exchange.proofs.path.steps_along.Given as goal

abbrev pub invariant-loop-hop : goal.invariant-loop-hop
invariant-loop-hop l = l.steps ≡ steps_of (take l.hop-index l.hops)
