use Rattle.std.proofs.Common.{Bool, List, []}
use Rattle.sfm_laminar.specs.Crossing.{group_at}
use Rattle.sfm_laminar.specs.Masks.{mask}
use Rattle.sfm_laminar.proofs.Made.{AreMade}
use Rattle.sfm_laminar.proofs.masks.Masks.new.Given as goal

abbrev pub invariant-loop-i : goal.invariant-loop-i
invariant-loop-i l = AreMade (List Bool) [] (λ p. mask l.k (group_at l.groups p).members) l.i
    l.sets.items
