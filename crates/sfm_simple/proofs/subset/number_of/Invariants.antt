use Rattle.std.proofs.Common.{◌≡◌, ◌+◌, ◌*◌, ◌^◌, ◌<◌, drop}
use Rattle.sfm_spec.specs.Kinds.{binary}
use Rattle.sfm_simple.proofs.subset.number_of.Given as goal

abbrev pub invariant-loop-j : goal.invariant-loop-j
invariant-loop-j l = record {
  so_far : l.number + 2 ^ l.j * binary (drop l.j l.s) ≡ binary l.s;
  below : l.number < 2 ^ l.j;
}
