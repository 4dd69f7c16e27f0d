-- the slots of the first cells of u are done with, and all that was gathered is led to
use Rattle.std.proofs.Common.{◌≡◌, length}
use Rattle.sfm_assign.specs.Spread.{AreTold}
use Rattle.sfm_cells.proofs.Grouping.{IsPassed}
use Rattle.sfm_assign.proofs.Gathering.{IsGathered, IsDone}
use Rattle.sfm_assign.proofs.gather.gather.Given as goal

abbrev pub invariant-loop-e : goal.invariant-loop-e
invariant-loop-e l = record {
  same : length l.answers ≡ length l.initial.answers;
  told : AreTold l.split.shares.now.cells.whos.items l.split.shares.now.cells.slots.items
      l.split.shares.now.y.items l.split.rooms.now l.answers;
  gathered : IsGathered (length l.initial.answers) l.split.shares.now.cells.whos.items
      l.split.shares.now.cells.slots.items l.split.shares.now.y.items l.split.rooms.now l.u l.to;
  passed : IsPassed l.e-items l.e-index
      (IsDone (length l.initial.answers) l.split.shares.now.cells.whos.items
      l.split.shares.now.cells.slots.items l.split.shares.now.y.items l.split.rooms.now l.to);
}
