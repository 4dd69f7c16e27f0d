-- the entries so far
use Rattle.std.proofs.Common.{◌≡◌, take}
use Rattle.sfm_layers.specs.Kept.{kept}
use Rattle.sfm_matroid.proofs.entries.Entries.restricted.Given as goal

abbrev pub invariant-loop-e : goal.invariant-loop-e
invariant-loop-e l = l.items.items ≡ kept (take l.e l.keep) (take l.e l.self)
