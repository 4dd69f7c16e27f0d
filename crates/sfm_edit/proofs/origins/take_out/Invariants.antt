use Rattle.std.proofs.Common.{◌≡◌}
use Rattle.sfm_kind.proofs.Removed.{cut_out}
use Rattle.sfm_edit.proofs.origins.take_out.Given as goal

abbrev pub invariant-loop-taken : goal.invariant-loop-taken
invariant-loop-taken l = l.places.items ≡ cut_out l.initial.places.items l.first l._taken
