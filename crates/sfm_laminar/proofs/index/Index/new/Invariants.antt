use Rattle.std.proofs.Common.{ℕ, List, [], length}
use Rattle.sfm_laminar.specs.Indexes.{holders}
use Rattle.sfm_laminar.proofs.Made.{AreMade}
use Rattle.sfm_laminar.proofs.index.Index.new.Given as goal

abbrev pub invariant-loop-e : goal.invariant-loop-e
invariant-loop-e l = AreMade (List ℕ) [] (λ p. holders l.groups p (length l.groups)) l.e
    l.holders.items
