-- the rows so far are copied
use Rattle.std.proofs.Common.{◌≡◌, ℕ, List, take}
use Rattle.sfm_reach.specs.Reach.{AreSized}
use Rattle.sfm_exchange.proofs.multiples.copy_tables.Given as goal

abbrev pub invariant-loop-i : goal.invariant-loop-i
invariant-loop-i l = (places : List (List ℕ)) × AreSized places l.from × AreSized places l.to.items
    × (take l.i l.to.items ≡ take l.i l.from)
