-- the numbers so far, each times m, before those that follow
use Rattle.std.proofs.Common.{◌≡◌, ◌*ℤ◌, map}
use Rattle.sfm_cells.specs.Left.{turned}
use Rattle.sfm_cells.proofs.multiples.scale.Given as goal

abbrev pub invariant-loop-i : goal.invariant-loop-i
invariant-loop-i l = l.numbers ≡ turned l.i (map (λ a. l.m *ℤ a) l.initial.numbers)
    l.initial.numbers
