use Rattle.std.proofs.Common.{◌≡◌}
use Rattle.sfm_graphic.specs.Graphs.{taken}
use Rattle.sfm_graphic.specs.Ends.{edges_of}
use Rattle.sfm_graphic.proofs.Labels.{labels_of}
use Rattle.sfm_graphic.proofs.growing.take_each.Given as goal

abbrev pub invariant-loop-e : goal.invariant-loop-e
invariant-loop-e l = record {
  labels : l.labels ≡ labels_of (edges_of l.initial.labels) l.s l.e;
  taken : l.t ≡ taken (edges_of l.initial.labels) l.s l.e;
}
