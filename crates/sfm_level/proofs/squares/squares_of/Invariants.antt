use Rattle.std.proofs.Common.{◌≡◌, take}
use Rattle.sfm_squares.specs.Level.{squares}
use Rattle.sfm_level.proofs.squares.squares_of.Given as goal

-- the squares so far are added
abbrev pub invariant-loop-a : goal.invariant-loop-a
invariant-loop-a l = l.sum ≡ squares (take l.a-index l.z)
