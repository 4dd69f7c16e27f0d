-- the list so far has the kept items so far
use Rattle.std.proofs.Common.{◌≡◌, take}
use Rattle.sfm_layers.specs.Kept.{kept}
use Rattle.sfm_layers.proofs.keeping.kept_of.Given as goal

abbrev pub invariant-loop-j : goal.invariant-loop-j
invariant-loop-j g l = l.list.items ≡ kept (take l.j l.keep) (take l.j l.items)
