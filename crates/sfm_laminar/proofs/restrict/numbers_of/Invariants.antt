-- the numbers so far, and how many kept places there are so far
use Rattle.std.proofs.Common.{◌≡◌, ℕ, take}
use Rattle.sfm_spec.specs.Sets.{size}
use Rattle.sfm_laminar.proofs.Made.{AreMade}
use Rattle.sfm_laminar.proofs.restrict.numbers_of.Given as goal

abbrev pub invariant-loop-e : goal.invariant-loop-e
invariant-loop-e l = record {
  made : AreMade ℕ 0 (λ d. size (take d l.keep)) l.e l.numbers.items;
  counted : l.count ≡ size (take l.e l.keep);
}
