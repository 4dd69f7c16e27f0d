use Rattle.std.proofs.Common.{◌≡◌, length}
use Rattle.sfm_laminar.specs.Counts.{AreCounts}
use Rattle.sfm_laminar.specs.Grown.{grown}
use Rattle.sfm_laminar.proofs.growing.grow.Given as goal

abbrev pub invariant-loop-e : goal.invariant-loop-e
invariant-loop-e l = record {
  places : length l.t ≡ length l.s;
  grown : l.t ≡ grown (length l.s) l.groups l.s l.e;
  counted : AreCounts l.groups l.t l.counts.items;
}
