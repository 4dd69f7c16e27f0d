-- the aims so far
use Rattle.sfm_stage.proofs.Aiming.{IsAiming}
use Rattle.sfm_stage.proofs.aims.write_aims.Given as goal

abbrev pub invariant-loop-level : goal.invariant-loop-level
invariant-loop-level l = IsAiming l.over l.levels l.aims.items l.aim l.level-index
