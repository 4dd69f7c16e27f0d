use Rattle.std.proofs.Common.{◌≡◌}
use Rattle.sfm_laminar.specs.Indexes.{holders}
use Rattle.sfm_laminar.proofs.index.holders_of.Given as goal

abbrev pub invariant-loop-i : goal.invariant-loop-i
invariant-loop-i l = l.numbers.items ≡ holders l.groups l.e l.i
