use Rattle.std.proofs.Common.{◌≡◌, take, length}
use Rattle.sfm_spec.specs.Families.{sized_shift}
use Rattle.sfm_sizes.proofs.shifts.write_sized.Given as goal

-- the places so far have their numbers
abbrev pub invariant-loop-e : goal.invariant-loop-e
invariant-loop-e l = record {
  places : length l.shift ≡ length l.sizes;
  so_far : take l.e l.shift ≡ sized_shift (take l.e l.sizes) l.p;
}
